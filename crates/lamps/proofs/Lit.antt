-- The lamps of a checked problem: arc by arc, and clause by clause under the clause's mask. Assumes nothing.
use mathlib.Core.Path.{◌≡◌, refl, sym, ap, ap₂, ◌∙◌}
use mathlib.Core.Bool.{Bool, true, false, cond}
use mathlib.Core.List.{List, [], ◌∷◌, ◌++◌, map, map-append}
use Prim.Native.Nat.{ℕ, zero, suc, ◌+◌, ◌-◌, ◌*◌, ◌/◌, ◌%◌, ◌^◌, ◌<◌, ◌≤◌}
use native.Mathlib.Omega.{arith}
use lib.Bits.{bit_and, bit_or}
use lib.Count
use lib.ListN.{length, get_or, length-map, get_or-map}
use Rattle.meaning.specs.Limits.{most_alternatives}
use Rattle.meaning.specs.Problem.{Alternative, Clause}
use Rattle.meaning.specs.Decision.{sound}
use Rattle.meaning.specs.Lamps.{forced, lamps_of, joined, bits, ones, lit}
use Rattle.problem.specs.declared.Problem.{Problem}
use Rattle.problem.specs.Arcs.{Net, at, arc, arcs_from}
use Rattle.problem.specs.Laid.{arcs, size_of, clause_of, clauses_from, clauses_in}
use Rattle.problem.proofs.Laying.{arcs-length, arcs-split, clauses-length, clause-of, clause-last, clause-ends}
use Rattle.lamps.specs.Masks.{lamps_in, mask}
use Rattle.lamps.proofs.Sets.{bit_at, count_under, one_more, none_more}

-- ---- the lamps of arcs in a row
module _ (fs : List Alternative) (g : Net) where
  lamps-length : (j k : ℕ) → length (lamps_of fs (arcs_from g j k)) ≡ k
  unfolding lamps_of
  lamps-length j k = length-map (arcs_from g j k) (λ a. sound (a ∷ fs)) ∙ arcs-length g j k

  lamps-split : (j a b : ℕ) → lamps_of fs (arcs_from g j (a + b)) ≡ lamps_of fs (arcs_from g j a) ++ lamps_of fs (arcs_from g (j + a) b)
  unfolding lamps_of
  lamps-split j a b = ap (lamps_of fs) (arcs-split g j a b) ∙ map-append (λ a. sound (a ∷ fs)) (arcs_from g j a) (arcs_from g (j + a) b)

  pub no-lamps : bits (lamps_of fs (arcs_from g 0 0)) ≡ 0
  unfolding bits lamps_of arcs_from
  no-lamps = refl

  -- one arc more, lit or not
  lamps-more : (k : ℕ) (b : Bool) → b ≡ sound (arc g k ∷ fs) → lamps_of fs (arcs_from g 0 k) ++ (b ∷ []) ≡ lamps_of fs (arcs_from g 0 (k + 1))
  unfolding lamps_of arcs_from
  lamps-more k b e =
      ap (λ (l : Bool). lamps_of fs (arcs_from g 0 k) ++ (l ∷ [])) e
      ∙ ap (λ (i : ℕ). lamps_of fs (arcs_from g 0 k) ++ (sound (arc g i ∷ fs) ∷ [])) (let z : k ≡ 0 + k = omega arith in z)
      ∙ sym (lamps-split 0 k 1)

  pub lit-more : (k n : ℕ) → k < most_alternatives → n ≡ bits (lamps_of fs (arcs_from g 0 k)) → true ≡ sound (arc g k ∷ fs)
      → bit_or n (1 * 2 ^ k % 2 ^ most_alternatives) ≡ bits (lamps_of fs (arcs_from g 0 (k + 1)))
  lit-more k n l e b =
      ap (λ (x : ℕ). bit_or x (1 * 2 ^ k % 2 ^ most_alternatives)) e
      ∙ one_more (lamps_of fs (arcs_from g 0 k)) k (lamps-length 0 k) l
      ∙ ap bits (lamps-more k true b)

  pub dark-more : (k n : ℕ) → n ≡ bits (lamps_of fs (arcs_from g 0 k)) → false ≡ sound (arc g k ∷ fs) → n ≡ bits (lamps_of fs (arcs_from g 0 (k + 1)))
  dark-more k n e b = e ∙ none_more (lamps_of fs (arcs_from g 0 k)) ∙ ap bits (lamps-more k false b)

-- ---- the lamps of a checked problem
module _ (p : Problem) where
  -- the clauses' lamps, joined, are the lamps of the arcs in a row
  joined-from : (fs : List Alternative) (k c : ℕ) → k + c ≡ p.m
      → joined (map (lamps_of fs) (clauses_from p k c)) ≡ lamps_of fs (arcs_from (arcs p) (at p.starts k) (at p.starts p.m - at p.starts k))
  unfolding joined clauses_from lamps_of arcs_from
  joined-from fs k zero e =
      ap (λ (n : ℕ). lamps_of fs (arcs_from (arcs p) (at p.starts k) n))
      (let z : 0 ≡ at p.starts p.m - at p.starts k = omega (arith, ap (at p.starts) (let w : p.m ≡ k = omega arith in w)) in z)
  joined-from fs k (suc c) e =
      let l : k < p.m = omega arith in
      let g = arcs p in
      let end = at p.starts p.m in
      ap (λ (bs : List Bool). lamps_of fs (clause_of p k) ++ bs) (joined-from fs (suc k) c (omega arith))
      ∙ ap (λ (j : ℕ). lamps_of fs (clause_of p k) ++ lamps_of fs (arcs_from g j (end - at p.starts (suc k)))) (clause-last p k l)
      ∙ sym (lamps-split fs g (at p.starts k) (size_of p k) (end - at p.starts (suc k)))
      ∙ ap (λ (n : ℕ). lamps_of fs (arcs_from g (at p.starts k) n))
      (let z : size_of p k + (end - at p.starts (suc k)) ≡ end - at p.starts k = omega (arith, clause-last p k l, p.laid.ends (suc k) l) in z)

  pub lamps-are : lamps_in p ≡ lamps_of (forced (clauses_in p)) (arcs_from (arcs p) 0 (at p.starts p.m))
  unfolding lit
  lamps-are =
      joined-from (forced (clauses_in p)) 0 p.m (omega arith)
      ∙ ap₂ (λ (j n : ℕ). lamps_of (forced (clauses_in p)) (arcs_from (arcs p) j n)) p.laid.begins
      (let z : at p.starts p.m - at p.starts 0 ≡ at p.starts p.m = omega (arith, p.laid.begins) in z)

  pub lamps-few : length (lamps_in p) ≤ most_alternatives
  lamps-few = omega (arith, ap length lamps-are, lamps-length (forced (clauses_in p)) (arcs p) 0 (at p.starts p.m), p.laid.last)

  -- the lamps before a, the s lamps from a on, and the rest
  parted : (a s : ℕ) → a + s ≤ at p.starts p.m
      → lamps_in p
      ≡ lamps_of (forced (clauses_in p)) (arcs_from (arcs p) 0 a)
      ++ (lamps_of (forced (clauses_in p)) (arcs_from (arcs p) a s) ++ lamps_of (forced (clauses_in p)) (arcs_from (arcs p) (a + s) (at p.starts p.m - (a + s))))
  parted a s l =
      let g = arcs p in
      let fs = forced (clauses_in p) in
      let rest = at p.starts p.m - (a + s) in
      lamps-are
      ∙ ap (λ (n : ℕ). lamps_of fs (arcs_from g 0 n)) (let z : at p.starts p.m ≡ a + (s + rest) = omega arith in z)
      ∙ lamps-split fs g 0 a (s + rest)
      ∙ ap (λ (j : ℕ). lamps_of fs (arcs_from g 0 a) ++ lamps_of fs (arcs_from g j (s + rest))) (let z : 0 + a ≡ a = omega arith in z)
      ∙ ap (λ (bs : List Bool). lamps_of fs (arcs_from g 0 a) ++ bs) (lamps-split fs g a s rest)

  -- bit j is lamp j
  pub lamp-at : (j : ℕ) → j < at p.starts p.m → bits (lamps_in p) / 2 ^ j % 2 ≡ cond (sound (arc (arcs p) j ∷ forced (clauses_in p))) 1 0
  unfolding lamps_of arcs_from
  lamp-at j l =
      let fs = forced (clauses_in p) in
      ap₂ (λ (n i : ℕ). n / 2 ^ i % 2) (ap bits (parted j 1 (omega arith))) (sym (lamps-length fs (arcs p) 0 j))
      ∙ bit_at (lamps_of fs (arcs_from (arcs p) 0 j)) (sound (arc (arcs p) j ∷ fs)) (lamps_of fs (arcs_from (arcs p) (j + 1) (at p.starts p.m - (j + 1))))

  count_at : (k : ℕ) → k < p.m → get_or (map ones (lit (clauses_in p))) k 0 ≡ ones (lamps_of (forced (clauses_in p)) (clause_of p k))
  unfolding lit lamps_of ones
  count_at k l =
      get_or-map ones (lit (clauses_in p)) k []
      ∙ ap ones (get_or-map (lamps_of (forced (clauses_in p))) (clauses_in p) k [])
      ∙ ap (λ (c : Clause). ones (lamps_of (forced (clauses_in p)) c)) (clause-of p k l)

  -- under a clause's mask its own lamps are counted
  pub count-is-clause : (k : ℕ) → k < p.m
      → Count.ones (bit_and (bits (lamps_in p)) (mask (at p.starts k) (at p.starts (suc k)))) ≡ get_or (map ones (lit (clauses_in p))) k 0
  count-is-clause k l =
      let g = arcs p in
      let fs = forced (clauses_in p) in
      let a = at p.starts k in
      let xs = lamps_of fs (arcs_from g 0 a) in
      let ys = lamps_of fs (clause_of p k) in
      let end : at p.starts (suc k) ≡ length ys + length xs = omega (arith, clause-last p k l, lamps-length fs g 0 a, lamps-length fs g a (size_of p k)) in
      ap₂ (λ (n m : ℕ). Count.ones (bit_and n m)) (ap bits (parted a (size_of p k) (clause-ends p k l))) (ap₂ mask (sym (lamps-length fs g 0 a)) end)
      ∙ count_under xs ys (lamps_of fs (arcs_from g (a + size_of p k) (at p.starts p.m - (a + size_of p k))))
      ∙ sym (count_at k l)

pub lit-length : (p : Problem) → length (lit (clauses_in p)) ≡ p.m
unfolding lit
lit-length p = length-map (clauses_in p) (lamps_of (forced (clauses_in p))) ∙ clauses-length p 0 p.m

pub counts-length : (p : Problem) → length (map ones (lit (clauses_in p))) ≡ p.m
counts-length p = length-map (lit (clauses_in p)) ones ∙ lit-length p
