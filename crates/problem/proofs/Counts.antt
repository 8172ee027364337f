-- The clause counts: they rise to the number of triples, and part the alternatives. A step of their test. Assumes nothing.
use mathlib.Core.Path.{◌≡◌, refl, ap, ◌∙◌}
use mathlib.Core.Bool.{◌&&◌}
use mathlib.Core.List.{List, [], ◌∷◌}
use Prim.Native.Nat.{ℕ, zero, suc, ◌+◌, ◌-◌, ◌<◌, ◌≤◌}
use native.Mathlib.Nat.{not-suc-le-zero, le_of_suc-le-suc}
use native.Mathlib.Numerals.{add-one}
use native.Mathlib.Omega.{arith}
use lib.Dec.{T, leb, eqb, eqb→eq}
use lib.ListN.{length, get_or, take, drop, drop_of_length-le}
use lib.Seq.{drop-cons, drop-drop}
use Rattle.meaning.specs.Limits.{most_in_clause}
use Rattle.meaning.specs.Problem.{Alternative}
use Rattle.meaning.specs.Screen.{stepped, parted}
use Rattle.meaning.proofs.Accepted.{first_count}
use Rattle.problem.specs.Arcs.{at}

-- ---- a step of the test, and its end
pub stepped-step : (last from k : ℕ) (counts : List ℕ) → k < length counts → stepped last from (drop k counts) ≡ leb from (at counts k) && leb (at counts k) (from + most_in_clause) && stepped last (at counts k) (drop (k + 1) counts)
unfolding stepped
stepped-step last from k counts h = rw (add-one, drop-cons counts k 0 h) refl

pub stepped-end : (last from k : ℕ) (counts : List ℕ) → length counts ≤ k → stepped last from (drop k counts) ≡ eqb from last
unfolding stepped
stepped-end last from k counts h = rw (drop_of_length-le counts h) refl

-- ---- what it says of each count
pub count-rises : (last from : ℕ) (counts : List ℕ) → T (stepped last from counts) → (k : ℕ) → k < length counts → (at (from ∷ counts) k ≤ at (from ∷ counts) (suc k)) × (at (from ∷ counts) (suc k) ≤ at (from ∷ counts) k + most_in_clause)
count-rises last from [] t k h = absurd (not-suc-le-zero h)
count-rises last from (e ∷ counts) t zero h = let f = first_count last from e counts t in (f.up, f.by)
count-rises last from (e ∷ counts) t (suc k) h = count-rises last e counts (first_count last from e counts t).rest k (le_of_suc-le-suc h)

pub count_under : (last from : ℕ) (counts : List ℕ) → T (stepped last from counts) → (k : ℕ) → k ≤ length counts → at (from ∷ counts) k ≤ last
unfolding stepped
count_under last from [] t zero h = omega (arith, eqb→eq from last t)
count_under last from [] t (suc k) h = absurd (not-suc-le-zero h)
count_under last from (e ∷ counts) t zero h =
    let f = first_count last from e counts t in
    omega (arith, f.up, count_under last e counts f.rest 0 (omega arith))
count_under last from (e ∷ counts) t (suc k) h = count_under last e counts (first_count last from e counts t).rest k (le_of_suc-le-suc h)

pub count-ends : (last from : ℕ) (counts : List ℕ) → T (stepped last from counts) → at (from ∷ counts) (length counts) ≡ last
unfolding stepped
count-ends last from [] t = eqb→eq from last t
count-ends last from (e ∷ counts) t = count-ends last e counts (first_count last from e counts t).rest

-- ---- the clauses: clause k holds the alternatives from its start up to the next one's
pub parted-at : (last from : ℕ) (counts : List ℕ) (made : List Alternative) → T (stepped last from counts) → (k : ℕ) → k < length counts → get_or (parted from counts (drop from made)) k [] ≡ take (at (from ∷ counts) (suc k) - at (from ∷ counts) k) (drop (at (from ∷ counts) k) made)
unfolding parted
parted-at last from [] made t k h = absurd (not-suc-le-zero h)
parted-at last from (e ∷ counts) made t zero h = refl
parted-at last from (e ∷ counts) made t (suc k) h =
    let f = first_count last from e counts t in
    let up = f.up in
    let q : from + (e - from) ≡ e = omega arith in
    ap (λ (l : List Alternative). get_or (parted e counts l) k []) (drop-drop (e - from) from made ∙ ap (λ (b : ℕ). drop b made) q)
    ∙ parted-at last e counts made f.rest k (le_of_suc-le-suc h)
