-- What the contract of a test settles: two answers that it allows agree, its rounds end at one place, the order and the copies of the facts do not matter, and a test of one fact more may start from the timetable of the others.
-- Assumes nothing.
use Prim.Native.Nat.{ℕ, zero, suc, ◌-◌, ◌≤◌, ◌<◌}
use mathlib.Core.Path.{◌≡◌, refl, sym, ap, ◌∙◌, subst}
use mathlib.Core.Bool.{false≢true}
use mathlib.Core.List.{List, [], ◌∷◌, map}
use native.Mathlib.Omega.{arith}
use lib.Dec.{T}
use lib.IntN.{ℤ, nat_abs}
use lib.ListN.{length, take}
use Rattle.std.proofs.Common.{Option, Some, None, is_some, option_map}
use Rattle.meaning.specs.Problem.{Alternative, Timetable, satisfied, Satisfies, Sound}
use Rattle.meaning.specs.Plain.{Latest}
use Rattle.meaning.specs.Decision.{sound, least, time_of, latest_of}
use Rattle.meaning.proofs.Settling.{Each, In}
use Rattle.meaning.proofs.Deciding.{satisfies-each, each-satisfies, sound-decides, latest-is, latest-one}
use Rattle.meaning.proofs.First.{sound-same}
use Rattle.problem.specs.Arcs.{Net, at, arc}
use Rattle.facts.specs.Tests.{Within, Tests, IsFact}
use Rattle.facts.specs.Rounds.{Under, Ended}
use Rattle.facts.proofs.Tables.{left_out}
use Rattle.facts.proofs.Joining.{each-fact, fact-each, within_in}

-- the answer and the timetable are determined
pub test-one : (fs : List Alternative) (n : ℕ) (r q : Option (List ℕ)) → Tests fs n r → Tests fs n q → option_map (take n) r ≡ option_map (take n) q
test-one fs n (Some s) (Some t) x y = ap Some (x.latest ∙ sym y.latest)
test-one fs n (Some s) None x y = absurd (false≢true (y.decides ∙ sym x.decides))
test-one fs n None (Some t) x y = absurd (false≢true (x.decides ∙ sym y.decides))
test-one fs n None None x y = refl

-- what lies under every timetable of the facts lies under every one of theirs with one fact more: a test of these may start there
pub one_more : (g : Net) (L : List ℕ) (j : ℕ) (s : List ℕ) → Under g L s → Under g (j ∷ L) s
one_more g L j s u = record { under = λ t h. u.under t (record { each = λ i l. h.each (suc i) (omega arith) }) }

-- the rounds end at one place: at the earlier of two the last would have changed no time, and the later has before its last only rounds that changed one
pub ended-one : (g : Net) (L : List ℕ) (n : ℕ) → Within g L n → (z : List ℕ) → n ≤ length z → (j k : ℕ) (s t : List (List ℕ)) → Ended g L z n j s → Ended g L z n k t → j ≡ k
ended-one g L n b z long j k s t x y = omega (arith, later j k s t x y, later k j t s y x)
  where
    later : (j k : ℕ) (s t : List (List ℕ)) → Ended g L z n j s → Ended g L z n k t → j < k → ⊥
    later j k s t x y l = y.moving.each (j - 1) (omega (arith, x.some)) (left_out g L n b z long j s x (omega (arith, y.most)))

-- ---- facts with the same timetables
minutes : (l : List ℕ) → map nat_abs (map time_of l) ≡ l
minutes [] = refl
minutes (zero ∷ l) = ap {B = List ℕ} (λ r. 0 ∷ r) (minutes l)
minutes (suc s ∷ l) = ap {B = List ℕ} (λ r. suc s ∷ r) (minutes l)

module _ (n : ℕ) (fs gs : List Alternative) (f : (t : Timetable) → Satisfies t fs → Satisfies t gs) (g : (t : Timetable) → Satisfies t gs → Satisfies t fs) where
  same-latest : (l : List ℤ) → Latest n gs l → Latest n fs l
  same-latest l k = record { size = k.size; keeps = g _ k.keeps; closing = k.closing; latest = λ t h. k.latest t (f t h) }

  same-least : Each (In n) fs → Each (In n) gs → Sound fs → least n fs ≡ least n gs
  unfolding latest_of
  same-least i j (t, h) =
      sym (minutes (least n fs))
      ∙ ap (map nat_abs) (latest-one n fs (latest_of n fs) (latest_of n gs) (latest-is n fs i (t, h)) (same-latest (latest_of n gs) (latest-is n gs j (t, f t h))))
      ∙ minutes (least n gs)

  decided : Each (In n) fs → Each (In n) gs → (r q : Option (List ℕ)) → Tests fs n r → Tests gs n q → is_some r ≡ is_some q
  decided i j r q x y = x.decides ∙ sound-same sound sound-decides fs gs f g ∙ sym y.decides

  same_tests : Each (In n) fs → Each (In n) gs → (r q : Option (List ℕ)) → Tests fs n r → Tests gs n q → option_map (take n) r ≡ option_map (take n) q
  same_tests i j (Some s) (Some t) x y =
      ap Some (x.latest ∙ same-least i j (sound-decides.right fs (subst T x.decides tt)) ∙ sym y.latest)
  same_tests i j (Some s) None x y = absurd (false≢true (sym (decided i j _ _ x y)))
  same_tests i j None (Some t) x y = absurd (false≢true (decided i j _ _ x y))
  same_tests i j None None x y = refl

-- ---- the same facts in any order, any number of times
more-facts : (g : Net) (L M : List ℕ) → ((j : ℕ) → IsFact M j → IsFact L j) → (t : Timetable) → Satisfies t (map (arc g) L) → Satisfies t (map (arc g) M)
more-facts g L M h t s =
    each-satisfies t (map (arc g) M)
    (each-fact g (λ a. T (satisfied t a)) M (λ i l.
    let k = h (at M i) (record { place = i; below = l; same = refl }) in
    subst (λ (j : ℕ). T (satisfied t (arc g j))) k.same (fact-each g (λ a. T (satisfied t a)) L (satisfies-each t (map (arc g) L) s) k.place k.below)))

-- the order of the facts does not matter
pub order-free : (g : Net) (L M : List ℕ) (n : ℕ) → Within g L n → Within g M n → ((j : ℕ) → IsFact L j → IsFact M j) → ((j : ℕ) → IsFact M j → IsFact L j) → (r q : Option (List ℕ)) → Tests (map (arc g) L) n r → Tests (map (arc g) M) n q → option_map (take n) r ≡ option_map (take n) q
order-free g L M n v w f h =
    same_tests n (map (arc g) L) (map (arc g) M) (more-facts g L M h) (more-facts g M L f) (within_in g L n v) (within_in g M n w)
