-- The plain list: at each place b stands the selection of rank b, so the search's answer is the first of the list that holds, and its place.
-- Assumes nothing.
use mathlib.Core.Path.{◌≡◌, refl, sym, ap, ◌∙◌, subst}
use mathlib.Core.Bool.{Bool}
use mathlib.Core.Logic.{inl, inr, ⊎_elim, by_cases}
use mathlib.Core.List.{List, [], ◌∷◌, ◌++◌, map}
use Prim.Native.Nat.{ℕ, zero, suc, ◌+◌, ◌-◌, ◌*◌, ◌<◌, ◌≤◌, zero-le, suc-le-suc}
use native.Mathlib.Nat.{le_of_suc-le-suc, not-suc-le-zero, suc-mul, zero-mul, mul-le-mul_right, lt_irrefl}
use native.Mathlib.Decide.{dec_lt}
use native.Mathlib.Omega.{arith}
use lib.ListN.{length, get_or, length-append, length-map, get_or-append}
use lib.Seq.{get_or-append-add}
use Rattle.meaning.specs.Problem.{Alternative, Clause}
use Rattle.meaning.specs.Plain.{Selection, Holds, ◌≺◌, product, rank, begun, selections}
use Rattle.meaning.specs.Search.{Row, found, closed, search, Decides}
use Rattle.meaning.proofs.First.{order, plan-first, none-holds}

rank_lt : (cs : List Clause) (p : List ℕ) → Selection cs p → rank cs p < product cs
unfolding rank product
rank_lt [] p s = suc-le-suc zero-le
rank_lt (c ∷ cs) [] s = absurd s
rank_lt (c ∷ cs) (i ∷ p) s = omega (arith, rank_lt cs p s.1, mul-le-mul_right (product cs) s.0, suc-mul i (product cs))

rank_mono : (cs : List Clause) (p q : List ℕ) → Selection cs p → Selection cs q → p ≺ q → rank cs p < rank cs q
unfolding rank
rank_mono [] [] q s r l = absurd l
rank_mono [] (i ∷ p) q s r l = absurd s
rank_mono (c ∷ cs) [] q s r l = absurd s
rank_mono (c ∷ cs) (i ∷ p) [] s r l = absurd r
rank_mono (c ∷ cs) (i ∷ p) (j ∷ q) s r (inl l) =
    omega (arith, rank_lt cs p s.1, mul-le-mul_right (product cs) l, suc-mul i (product cs))
rank_mono (c ∷ cs) (i ∷ p) (j ∷ q) s r (inr l) =
    omega (arith, rank_mono cs p q s.1 r.1 l.1, ap (λ (m : ℕ). m * product cs) l.0)

-- the lower rank comes first
rank-order : (cs : List Clause) (p q : List ℕ) → Selection cs p → Selection cs q → rank cs p < rank cs q → p ≺ q
rank-order cs p q s r l =
    ⊎_elim (λ h. h)
    (λ h. absurd (⊎_elim (λ e. lt_irrefl (rank cs q) (subst (λ x. rank cs x < rank cs q) e l)) (λ g. both_ways l (rank_mono cs q p r s g)) h))
    (order cs p q s r)
  where
    both_ways : {m n : ℕ} → m < n → n < m → ⊥
    both_ways h k = omega arith

rank-one : (cs : List Clause) (p q : List ℕ) → Selection cs p → Selection cs q → rank cs p ≡ rank cs q → p ≡ q
rank-one cs p q s r e =
    ⊎_elim (λ l. absurd (lt_irrefl (rank cs q) (subst (λ x. x < rank cs q) e (rank_mono cs p q s r l))))
    (⊎_elim (λ h. h) (λ l. absurd (lt_irrefl (rank cs q) (subst (λ x. rank cs q < x) e (rank_mono cs q p r s l)))))
    (order cs p q s r)

get_or-begin : (i : ℕ) (qs : List (List ℕ)) (j : ℕ) → j < length qs → get_or (map (λ q. i ∷ q) qs) j [] ≡ i ∷ get_or qs j []
get_or-begin i [] j l = absurd (not-suc-le-zero l)
get_or-begin i (q ∷ qs) zero l = refl
get_or-begin i (q ∷ qs) (suc j) l = get_or-begin i qs j (le_of_suc-le-suc l)

pub record Place (i n C : ℕ) (qs : List (List ℕ)) (j : ℕ) : Type 0 where
  pub head : ℕ
  pub tail : ℕ
  pub below : head < n
  pub within : tail < C
  pub is : j ≡ head * C + tail
  pub there : get_or (begun i n qs) j [] ≡ (i + head) ∷ get_or qs tail []

module _ (C : ℕ) (qs : List (List ℕ)) (e : length qs ≡ C) where
  in-first : (n i j : ℕ) → j < C → Place i (suc n) C qs j
  unfolding begun
  in-first n i j h =
      let b : j < length qs = omega arith in
      let d : j < length (map (λ q. i ∷ q) qs) = omega (arith, length-map qs (λ q. i ∷ q)) in
      record {
        head = 0;
        tail = j;
        below = suc-le-suc zero-le;
        within = h;
        is = omega arith;
        there = get_or-append (map (λ q. i ∷ q) qs) (begun (suc i) n qs) [] j d ∙ get_or-begin i qs j b ∙ ap (λ (m : ℕ). m ∷ get_or qs j []) (omega arith);
      }

  in-later : (n i j : ℕ) → C ≤ j → Place (suc i) n C qs (j - C) → Place i (suc n) C qs j
  unfolding begun
  in-later n i j h k =
      let d : j ≡ length (map (λ q. i ∷ q) qs) + (j - C) = omega (arith, length-map qs (λ q. i ∷ q)) in
      record {
        head = suc k.head;
        tail = k.tail;
        below = suc-le-suc k.below;
        within = k.within;
        is = omega (arith, k.is, suc-mul k.head C);
        there = ap (λ (m : ℕ). get_or (map (λ q. i ∷ q) qs ++ begun (suc i) n qs) m []) d ∙ get_or-append-add (map (λ q. i ∷ q) qs) (begun (suc i) n qs) (j - C) [] ∙ k.there ∙ ap (λ (m : ℕ). m ∷ get_or qs k.tail []) (omega arith);
      }

  begun-at : (n i j : ℕ) → j < n * C → Place i n C qs j
  begun-at zero i j l = absurd (none (zero-mul C) l)
    where
      none : {m : ℕ} → m ≡ 0 → j < m → ⊥
      none z h = omega arith
  begun-at (suc n) i j l =
      by_cases (dec_lt j C) (in-first n i j)
      (λ h. in-later n i j (omega arith) (begun-at n (suc i) (j - C) (omega (arith, suc-mul n C))))

begun-length : (qs : List (List ℕ)) (n i : ℕ) → length (begun i n qs) ≡ n * length qs
unfolding begun
begun-length qs zero i = sym (zero-mul (length qs))
begun-length qs (suc n) i =
    length-append (map (λ q. i ∷ q) qs) (begun (suc i) n qs)
    ∙ omega (arith, length-map qs (λ q. i ∷ q), begun-length qs n (suc i), suc-mul n (length qs))

pub selections-length : (cs : List Clause) → length (selections cs) ≡ product cs
unfolding selections product
selections-length [] = refl
selections-length (c ∷ cs) = begun-length (selections cs) (length c) 0 ∙ ap (λ (m : ℕ). length c * m) (selections-length cs)

-- at place j of the list stands the selection of rank j
pub rank-at : (cs : List Clause) (j : ℕ) → j < product cs → Selection cs (get_or (selections cs) j []) × (rank cs (get_or (selections cs) j []) ≡ j)
unfolding selections product rank
rank-at [] zero l = (tt, refl)
rank-at [] (suc j) l = absurd (not-suc-le-zero (le_of_suc-le-suc l))
rank-at (c ∷ cs) j l =
    let k = begun-at (product cs) (selections cs) (selections-length cs) (length c) 0 j l in
    let h = rank-at cs k.tail k.within in
    let d : (k.head ∷ get_or (selections cs) k.tail []) ≡ get_or (begun 0 (length c) (selections cs)) j [] = sym (k.there ∙ ap (λ (m : ℕ). m ∷ get_or (selections cs) k.tail []) (omega arith)) in
    subst (λ (q : List ℕ). Selection (c ∷ cs) q × (rank (c ∷ cs) q ≡ j)) d ((k.below, h.0), omega (arith, h.1, k.is))

-- demand 3, over the plain list
module _ (sound : List Alternative → Bool) (sure : Decides sound) (cs : List Clause) where
  -- the first b selections of the list do not hold
  abbrev pub Ruled : ℕ → Type 0
  Ruled b = (j : ℕ) → j < b → ¬ Holds cs (get_or (selections cs) j [])

  pub plan-plain : (v : ℕ) (p : List ℕ) (b w : ℕ) → search sound cs 0 [] v ≡ found p b w → (b < length (selections cs)) × (get_or (selections cs) b [] ≡ p) × Holds cs p × Ruled b
  plan-plain v p b w e =
      let k = plan-first sound sure cs v p b w e in
      let l : b < product cs = omega (arith, rank_lt cs p k.0.sel, k.1) in
      let h = rank-at cs b l in (
        omega (arith, selections-length cs),
        rank-one cs (get_or (selections cs) b []) p h.0 k.0.sel (h.1 ∙ k.1),
        k.0.holds,
        λ j m. let g = rank-at cs j (omega arith) in k.0.first (get_or (selections cs) j []) g.0 (rank-order cs (get_or (selections cs) j []) p g.0 k.0.sel (omega (arith, g.1, k.1))),
      )

  pub none-plain : (v n : ℕ) (r : List Row) (w : ℕ) → search sound cs 0 [] v ≡ closed n r w → (n ≡ length (selections cs)) × Ruled n
  none-plain v n r w e =
      let k = none-holds sound sure cs v n r w e in (
        k.1 ∙ sym (selections-length cs),
        λ j m. k.0 (get_or (selections cs) j []) (rank-at cs j (omega (arith, k.1))).0,
      )
