-- The join with the meaning: times in minutes before closing that keep arcs are numbers that meet alternatives. So the answer of a test is the meaning's decision and its latest timetable.
-- Assumes nothing.
use Prim.Native.Nat.{ℕ, zero, suc, ◌≤◌, ◌<◌}
use mathlib.Core.Path.{◌≡◌, refl, sym, ◌∙◌}
use mathlib.Core.Bool.{true, false}
use mathlib.Core.List.{List, [], ◌∷◌, map}
use native.Mathlib.Omega.{arith}
use lib.IntN.{ℤ}
use lib.ListN.{length, take, replicate, length-replicate, length-take}
use lib.Seq.{ext_get_or, get_or-take}
use Rattle.std.proofs.Common.{Option, Some, None, IfSome}
use Rattle.laws.proofs.Differences.{Minus, below, above, minus}
use Rattle.laws.proofs.Tests.{is_true, is_false}
use Rattle.meaning.specs.Limits.{most_events}
use Rattle.meaning.specs.Problem.{Alternative}
use Rattle.meaning.specs.Decision.{ask, least, sound}
use Rattle.meaning.proofs.Settling.{Each, In, Meets, zero-at, rounds-length, least_under, sound-right, sound-whole}
use Rattle.meaning.proofs.Deciding.{day, day-satisfies, sound-decides, least-met}
use Rattle.problem.specs.Arcs.{Net, head, tail, bound, bias, at, arc}
use Rattle.facts.specs.Tests.{Within, Tests}
use Rattle.facts.specs.Rounds.{Kept, Holds, Under, TestsFrom}

-- ---- times that keep arcs
module _ (g : Net) (s : ℕ → ℕ) (j : ℕ) where
  kept-meets : Kept g s j → Meets s (arc g j)
  unfolding ask
  kept-meets h = go (minus (bound g j) bias)
    where
      go : {z : ℤ} → Minus (bound g j) bias z → ask (s (tail g j)) z ≤ s (head g j)
      go (below l) = omega arith
      go (above l) = omega arith

  meets-kept : Meets s (arc g j) → Kept g s j
  unfolding ask
  meets-kept h = go (minus (bound g j) bias) h
    where
      go : {z : ℤ} → Minus (bound g j) bias z → ask (s (tail g j)) z ≤ s (head g j) → Kept g s j
      go (below l) m = omega arith
      go (above l) m = omega arith

-- what holds of each fact by its place
module _ (g : Net) (P : Alternative → Type 0) where
  pub each-fact : (L : List ℕ) → ((i : ℕ) → i < length L → P (arc g (at L i))) → Each P (map (arc g) L)
  each-fact [] h = tt
  each-fact (j ∷ L) h = (h 0 (omega arith), each-fact L (λ i l. h (suc i) (omega arith)))

  pub fact-each : (L : List ℕ) → Each P (map (arc g) L) → (i : ℕ) → i < length L → P (arc g (at L i))
  fact-each [] h i l = absurd (omega arith)
  fact-each (j ∷ L) h zero l = h.0
  fact-each (j ∷ L) h (suc i) l = fact-each L h.1 i (omega arith)

pub holds-meets : (g : Net) (L : List ℕ) (s : ℕ → ℕ) → Holds g L s → Each (Meets s) (map (arc g) L)
holds-meets g L s h = each-fact g (Meets s) L (λ i l. kept-meets g s (at L i) (h.each i l))

pub meets-holds : (g : Net) (L : List ℕ) (s : ℕ → ℕ) → Each (Meets s) (map (arc g) L) → Holds g L s
meets-holds g L s m = record { each = λ i l. meets-kept g s (at L i) (fact-each g (Meets s) L m i l) }

pub within_in : (g : Net) (L : List ℕ) (n : ℕ) → Within g L n → Each (In n) (map (arc g) L)
within_in g L n w = each-fact g (In n) L (λ i l. ((w.known.each i l).in_head, (w.known.each i l).in_tail))

module _ (g : Net) (L : List ℕ) (n : ℕ) (w : Within g L n) where
  -- times that keep the facts make them sound
  pub holds-sound : (s : ℕ → ℕ) → Holds g L s → sound (map (arc g) L) ≡ true
  holds-sound s h = is_true _ (sound-decides.whole (map (arc g) L) (day s) (day-satisfies s (map (arc g) L) (holds-meets g L s h)))

  -- and if they lie under all that do, they are the least
  pub holds-least : (times : List ℕ) → n ≤ length times → Holds g L (λ v. at times v) → Under g L times → take n times ≡ least n (map (arc g) L)
  unfolding least
  holds-least times l h u =
      ext_get_or 0 (take n times) (least n fs) (size ∙ sym size') (λ e b. let c : e < n = omega (arith, size) in get_or-take n times e 0 c ∙ same e)
    where
      fs : List Alternative
      fs = map (arc g) L

      size : length (take n times) ≡ n
      size = simp length-take (omega arith)

      size' : length (least n fs) ≡ n
      size' = rounds-length n fs (replicate n 0) ∙ length-replicate n 0

      inside : Each (In n) fs
      inside = within_in g L n w

      met : Each (Meets (λ v. at times v)) fs
      met = holds-meets g L (λ v. at times v) h

      same : (e : ℕ) → at times e ≡ at (least n fs) e
      same e = omega (arith, least_under n fs inside (λ v. at times v) met e, u.under (λ v. at (least n fs) v) (meets-holds g L (λ v. at (least n fs) v) (sound-right n fs (sound-whole n fs inside (λ v. at times v) met))) e)

  -- where no times keep the facts, they are not sound
  pub none-unsound : ((t : ℕ → ℕ) → Holds g L t → ⊥) → sound (map (arc g) L) ≡ false
  none-unsound h =
      is_false _ (λ y.
      let met = least-met n (map (arc g) L) (within_in g L n w) (sound-decides.right (map (arc g) L) y) in
      h (at (least n (map (arc g) L))) (meets-holds g L (at (least n (map (arc g) L))) met))

-- ---- the answer of a test from the extra source is the meaning's
pub joined : (g : Net) (L : List ℕ) (n : ℕ) → Within g L n → 1 ≤ n → n ≤ most_events → (answer : Option (List ℕ)) → IfSome answer (λ times. length times ≡ most_events) → TestsFrom g L (replicate most_events 0) n answer → Tests (map (arc g) L) n answer
joined g L n w some most (Some times) long v =
    record {
      decides = sym (holds-sound g L n w (λ u. at times u) v.keeps);
      latest = holds-least g L n w times (omega arith) v.keeps v.under;
      small = λ e. omega (arith, v.risen 0 (λ u. omega (arith, zero-at most_events u)) e);
    }
joined g L n w some most None long v =
    record { decides = sym (none-unsound g L n w (v.unsound refl)); latest = tt; small = tt }

-- nothing lies below the extra source's start
pub zeros-under : (g : Net) (L : List ℕ) (w : ℕ) → Under g L (replicate w 0)
zeros-under g L w = record { under = λ t h v. omega (arith, zero-at w v) }
