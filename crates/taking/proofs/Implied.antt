-- The opposite of an unsound alternative is implied: a day of the facts is a day with it. Assumes nothing.
use mathlib.Core.Path.{◌≡◌, sym, ◌∙◌, subst}
use mathlib.Core.Bool.{false, true≢false}
use mathlib.Core.Logic.{⊎_elim}
use mathlib.Core.List.Memᴰ
use mathlib.Core.List.{List, ◌∷◌, ◌++◌, Memᴰ}
use Prim.Native.Nat.{ℕ, zero, suc, ◌+◌, ◌<◌, ◌≤◌}
use native.Mathlib.Decide.{dec_lt}
use native.Mathlib.Omega.{arith}
use lib.IntN.{ℤ, pos, negsuc, neg_ℤ, nat_abs, pred_ℤ, ◌+ℤ◌}
use lib.Signed.{le_z}
use Rattle.laws.proofs.Tests.{is_true}
use Rattle.laws.proofs.Integers.{up, down, add-law, neg-up, neg-down, le_of, +ℤ-mono}
use Rattle.meaning.specs.Problem.{Alternative, opposite}
use Rattle.meaning.specs.Decision.{sound}
use Rattle.problem.specs.Arcs.{bias}
use Rattle.distances.specs.Distances.{Walk, stay, onward, Distance, none, far, AtMost, most, Table, DayOf}
use Rattle.distances.specs.Adding.{no_longer, and_then, closes}
use Rattle.distances.proofs.Distances.{at-most-more}
use Rattle.distances.proofs.Walking.{over-more, joined, shown}
use Rattle.distances.proofs.Updating.{itself, step}
use Rattle.distances.proofs.Timetables.{fits-sound}
use Rattle.distances.proofs.Meaning.{bounded-more}
use Rattle.meaning.specs.Limits.{most_events}
use Rattle.meaning.proofs.Settling.{In}
use Rattle.taking.specs.Spans.{spans}
use Rattle.taking.specs.Tables.{distances_in, IsDay}
use Rattle.taking.proofs.Adding.{with-spans}

pred-law : (w : ℤ) → up (pred_ℤ w) + down w + 1 ≡ up w + down (pred_ℤ w)
pred-law (pos zero) = omega arith
pred-law (pos (suc n)) = omega arith
pred-law (negsuc n) = omega arith

-- a way back that makes a cycle below 0 with a fact of bound c is at most −c−1
below : (d : Distance) (c : ℤ) → closes d c ≡ false → AtMost d (pred_ℤ (neg_ℤ c))
unfolding no_longer and_then
below none c e = absurd (true≢false e)
below (far z) c e = go (dec_lt (up (z +ℤ c)) (down (z +ℤ c)))
  where
    go : Dec (up (z +ℤ c) < down (z +ℤ c)) → AtMost (far z) (pred_ℤ (neg_ℤ c))
    go (yes l) = most (le_of z (pred_ℤ (neg_ℤ c)) (omega (arith, add-law z c, pred-law (neg_ℤ c), neg-up c, neg-down c)))
    go (no l) = absurd (true≢false (sym (is_true (le_z (pos 0) (z +ℤ c)) (le_of (pos 0) (z +ℤ c) (omega arith)).le) ∙ e))

module _ (n : ℕ) (fs : List Alternative) (d : Table) (day : DayOf n fs d) where
  -- where an alternative is unsound, the way back and it make a cycle below 0; so that way, which leads as its opposite does, is at most the
  -- opposite's bound
  implied : (a : Alternative) → (a.x < n) × (a.y < n) → sound (a ∷ fs) ≡ false → AtMost (d (opposite a).y (opposite a).x) (opposite a).c
  unfolding opposite
  implied a i e = below (d a.x a.y) a.c (fits-sound n fs d day a i ∙ e)

  module _ (b : Alternative) (i : (b.x < n) × (b.y < n)) (h : AtMost (d b.y b.x) b.c) where
    inside : (a : Alternative) → Memᴰ a (b ∷ fs) → (a.x < n) × (a.y < n)
    inside a m = ⊎_elim (λ q. subst (λ (a : Alternative). (a.x < n) × (a.y < n)) (sym q) i) (λ q. day.within a q) (Memᴰ.cases_cons m)

    -- a walk of the old facts leads on where the new one does, and is no longer
    on : (u : ℕ) {s : ℤ} → u < n → AtMost (d u b.y) s → AtMost (d u b.x) (s +ℤ b.c)
    on u l k =
        let (z, w, p) = shown (day.each u b.y l i.1) k in
        let (y, v, q) = shown (day.each b.y b.x i.1 i.0) h in
        at-most-more ((day.each u b.x l i.0).least (z +ℤ y) (joined w v)) (+ℤ-mono p q)

    -- so no walk over the new one is shorter than the distances: step by step
    no_less : (u : ℕ) → u < n → {v : ℕ} {s : ℤ} → Walk (b ∷ fs) u v s → AtMost (d u v) s
    no_less u l stay = itself n fs d day u l
    no_less u l (onward {s = s} a w m) =
        let k = no_less u l w in
        ⊎_elim (λ q. subst (λ (a : Alternative). AtMost (d u a.y) s → AtMost (d u a.x) (s +ℤ a.c)) (sym q) (λ j. on u l j) k) (λ q. step n fs d day u a l q k) (Memᴰ.cases_cons m)

    implied-day : DayOf n (b ∷ fs) d
    implied-day =
        record {
          within = inside;
          each = λ u v l m. record {
            walked = λ z e. over-more (λ a k. Memᴰ.tail k) ((day.each u v l m).walked z e);
            least = λ s w. no_less u l w;
          };
        }

-- the table that is the day of the facts is the day with the opposite b of an alternative a that has no timetable with them
pub implied-holds : (w : ℕ) → w ≤ most_events → (fs : List Alternative) (t : List (List ℕ)) → IsDay w fs t → (a b : Alternative) → opposite a ≡ b → In w a → nat_abs a.c ≤ bias → nat_abs b.c ≤ bias → sound (a ∷ fs) ≡ false → IsDay w (b ∷ fs) t
implied-holds w few fs t h a b q i least small e =
    record {
      day = implied-day w (fs ++ spans w) (distances_in t) h.day b (subst (In w) q (unfold opposite in (i.1, i.0))) (subst (λ (b : Alternative). AtMost (distances_in t b.y b.x) b.c) q (implied w (fs ++ spans w) (distances_in t) h.day a i (with-spans w few fs t h a i least ∙ e)));
      near = h.near;
      bounded = bounded-more b small fs h.bounded;
    }
