-- Laws of places: the next standing by the last position, the alternatives left open, and ranks by suffixes. Assumes nothing.
use mathlib.Core.Path.{◌≡◌, refl, sym, ap, ap₂, ◌∙◌, subst}
use mathlib.Core.Bool.{Bool, true, false, cond}
use mathlib.Core.Option.{Option, some, none}
use mathlib.Core.List.{List, [], ◌∷◌, ◌++◌}
use Prim.Native.Nat.{ℕ, zero, suc, ◌+◌, ◌-◌, ◌*◌, ◌^◌, ◌<◌, ◌≤◌}
use native.Mathlib.Nat.{not-suc-le-zero, le_of_suc-le-suc, le_trans}
use native.Mathlib.Decide.{dec_lt}
use native.Mathlib.Omega.{arith}
use lib.Dec.{T, ltb, ltb→lt, lt→ltb}
use lib.ListN.{length, get_or, take, drop, set, length-take, length-drop, drop_of_length-le}
use lib.Seq.{take-suc, drop-cons, get_or-take, get_or-drop, get_or-set_same, get_or-set_other, take-suc-set}
use Rattle.laws.proofs.Tests.{is_true, is_false, never}
use Rattle.laws.proofs.Lists.{drop-take}
use Rattle.meaning.specs.Problem.{Clause}
use Rattle.meaning.specs.Plain.{product, rank}
use Rattle.meaning.specs.Search.{Standing, next, sideways}
use Rattle.meaning.proofs.Accepted.{sizes}
use Rattle.meaning.proofs.Fits.{product-fits, rank-within}
use Rattle.meaning.proofs.Rows.{Short}
use Rattle.meaning.proofs.First.{rank-none}
use Rattle.problem.specs.declared.Problem.{Problem}
use Rattle.problem.specs.Arcs.{at}
use Rattle.problem.specs.Laid.{arcs, size_of, clauses_from, clauses_in}
use Rattle.problem.proofs.Laying.{arcs-length, clauses-length, clause-of, clause-last, size-most}
use Rattle.search.specs.Standing.{Inside}
use Rattle.search.specs.Places.{open_at}
use Rattle.search.proofs.Numbers.{inside-standing}
use Rattle.search.proofs.Dead.{clauses-first}

-- ---- the next standing
pub next-none : (cs : List Clause) → next cs [] ≡ none
unfolding next
next-none [] = refl
next-none (c ∷ cs) = refl

-- by the last position: the one after it, or that of the standing without it
pub next_last : (cs : List Clause) (q : List ℕ) (i : ℕ) (b : Bool) → length q < length cs → ltb (suc i) (length (get_or cs (length q) [])) ≡ b → next cs (q ++ i ∷ []) ≡ cond b (some (q ++ suc i ∷ [])) (next cs q)
unfolding next
next_last [] q i b l e = absurd (not-suc-le-zero l)
next_last (c ∷ cs) [] i b l e = ap₂ (λ (x : Bool) (o : Option (List ℕ)). sideways x i o) e (next-none cs) ∙ first b
  where
    first : (b : Bool) → sideways b i none ≡ cond b (some (suc i ∷ [])) none
    first true = unfold sideways in refl
    first false = unfold sideways in refl
next_last (c ∷ cs) (j ∷ q) i b l e =
    ap (sideways (ltb (suc j) (length c)) j) (next_last cs q i b (le_of_suc-le-suc l) e) ∙ deeper b
  where
    deeper : (b : Bool) → sideways (ltb (suc j) (length c)) j (cond b (some (q ++ suc i ∷ [])) (next cs q)) ≡ cond b (some (j ∷ (q ++ suc i ∷ []))) (sideways (ltb (suc j) (length c)) j (next cs q))
    deeper true = unfold sideways in refl
    deeper false = refl

module _ (p : Problem) (picks : List ℕ) (k i : ℕ) (inside : Inside p picks k) (l : i < k) (long : k ≤ length picks) where
  size-at : length (get_or (clauses_in p) (length (take i picks)) []) ≡ size_of p i
  size-at =
      ap (λ (d : ℕ). length (get_or (clauses_in p) d [])) (let e : length (take i picks) ≡ i = omega (arith, length-take i picks) in e)
      ∙ ap length (clause-of p i (omega (arith, inside.few)))
      ∙ arcs-length (arcs p) (at p.starts i) (size_of p i)

  split : take (i + 1) picks ≡ take i picks ++ at picks i ∷ []
  split =
      ap (λ (d : ℕ). take d picks) (let e : i + 1 ≡ suc i = omega arith in e) ∙ take-suc picks i 0 (omega arith)

  short : length (take i picks) < length (clauses_in p)
  short = omega (arith, length-take i picks, clauses-length p 0 p.m, inside.few)

  -- the last position can't go on
  pub next-back : size_of p i ≤ at picks i + 1 → next (clauses_in p) (take (i + 1) picks) ≡ next (clauses_in p) (take i picks)
  next-back h =
      ap (next (clauses_in p)) split
      ∙ next_last (clauses_in p) (take i picks) (at picks i) false short
      (is_false _ (λ t. contra (ltb→lt _ _ t) size-at))
    where
      contra : {s : ℕ} → suc (at picks i) < s → s ≡ size_of p i → ⊥
      contra g e = omega arith

  -- it can
  pub next-on : at picks i + 1 < size_of p i → next (clauses_in p) (take (i + 1) picks) ≡ some (take (i + 1) (set picks i (at picks i + 1)))
  next-on h =
      ap (next (clauses_in p)) split
      ∙ next_last (clauses_in p) (take i picks) (at picks i) true short
      (is_true _ (lt→ltb (suc (at picks i)) (length (get_or (clauses_in p) (length (take i picks)) [])) (omega (arith, size-at))))
      ∙ ap some (sym moved)
    where
      moved : take (i + 1) (set picks i (at picks i + 1)) ≡ take i picks ++ suc (at picks i) ∷ []
      moved =
          ap (λ (d : ℕ). take d (set picks i (at picks i + 1))) (let e : i + 1 ≡ suc i = omega arith in e)
          ∙ take-suc-set picks i (at picks i + 1) (omega arith)
          ∙ ap (λ (d : ℕ). take i picks ++ d ∷ []) (let e : at picks i + 1 ≡ suc (at picks i) = omega arith in e)

  pub inside_on : at picks i + 1 < size_of p i → Inside p (set picks i (at picks i + 1)) (i + 1)
  inside_on h = record { few = omega (arith, inside.few); each = each }
    where
      each : (j : ℕ) → j < i + 1 → at (set picks i (at picks i + 1)) j < size_of p j
      each j b = go (dec_lt j i)
        where
          go : Dec (j < i) → at (set picks i (at picks i + 1)) j < size_of p j
          go (no n) =
              let e : i ≡ j = omega arith in
              subst (λ (d : ℕ). at (set picks i (at picks i + 1)) d < size_of p d) e (rw (get_or-set_same picks i (at picks i + 1) 0 (let q : i < length picks = omega arith in q)) h)
          go (yes n) =
              rw (get_or-set_other picks i j (at picks i + 1) 0 (λ e. let q : j < i = n in omega arith)) (inside.each j (omega arith))

-- ---- ranks and products by suffixes of the clauses
module _ (p : Problem) where
  pub laid-short : (k c : ℕ) → k + c ≤ p.m → Short (clauses_from p k c)
  unfolding clauses_from
  laid-short k zero h = tt
  laid-short k (suc c) h =
      (omega (arith, arcs-length (arcs p) (at p.starts k) (size_of p k), size-most p k (omega arith)), laid-short (suc k) c (omega arith))

  laid-sizes : (k c : ℕ) → k + c ≤ p.m → sizes (clauses_from p k c) + at p.starts k ≡ at p.starts (k + c)
  unfolding clauses_from sizes
  laid-sizes k zero h = omega (arith, ap (at p.starts) (let e : k ≡ k + 0 = omega arith in e))
  laid-sizes k (suc c) h =
      omega (arith, arcs-length (arcs p) (at p.starts k) (size_of p k), clause-last p k (omega arith), laid-sizes (suc k) c (omega arith), ap (at p.starts) (let e : suc k + c ≡ k + suc c = omega arith in e))

  pub product_small : (k : ℕ) → k ≤ p.m → product (clauses_from p k (p.m - k)) ≤ 2 ^ 63
  product_small k h =
      product-fits (clauses_from p k (p.m - k)) (laid-short k (p.m - k) (omega arith))
      (omega (arith, laid-sizes k (p.m - k) (omega arith), p.laid.last, p.laid.ends (k + (p.m - k)) (omega arith)))

  -- a clause more in front
  product-front : (i : ℕ) → i < p.m → product (clauses_from p i (p.m - i)) ≡ size_of p i * product (clauses_from p (i + 1) (p.m - (i + 1)))
  unfolding product
  product-front i h =
      ap product (clauses-first p i p.m h)
      ∙ ap (λ (s : ℕ). s * product (clauses_from p (i + 1) (p.m - (i + 1)))) (arcs-length (arcs p) (at p.starts i) (size_of p i))

  rank-front : (picks : List ℕ) (k i : ℕ) → i < k → k ≤ length picks → i < p.m → rank (clauses_from p i (p.m - i)) (drop i (take k picks)) ≡ at picks i * product (clauses_from p (i + 1) (p.m - (i + 1))) + rank (clauses_from p (i + 1) (p.m - (i + 1))) (drop (i + 1) (take k picks))
  unfolding rank
  rank-front picks k i l long h =
      ap₂ rank (clauses-first p i p.m h) (drop-cons (take k picks) i 0 (let b : i < length (take k picks) = omega (arith, length-take k picks) in b))
      ∙ ap₂ (λ (j d : ℕ). j * product (clauses_from p (i + 1) (p.m - (i + 1))) + rank (clauses_from p (i + 1) (p.m - (i + 1))) (drop d (take k picks))) (get_or-take k picks i 0 l) (let e : suc i ≡ i + 1 = omega arith in e)

  pub rank-small : (picks : List ℕ) (k i : ℕ) → Inside p picks k → k ≤ length picks → i ≤ k → rank (clauses_from p i (p.m - i)) (drop i (take k picks)) ≤ 2 ^ 63
  rank-small picks k i inside long l =
      le_trans (rank-within (clauses_from p i (p.m - i)) (drop i (take k picks)) (standing-after picks k i inside long l)) (product_small i (omega (arith, inside.few)))
    where
      standing-after : (picks : List ℕ) (k i : ℕ) → Inside p picks k → k ≤ length picks → i ≤ k → Standing (clauses_from p i (p.m - i)) (drop i (take k picks))
      standing-after picks k i inside long l =
          subst (Standing (clauses_from p i (p.m - i))) (sym (drop-take i k picks))
          (inside-standing p (drop i picks) (k - i) i (omega (arith, length-drop i picks))
          (λ j b. rw (get_or-drop i picks j 0) (inside.each (i + j) (omega arith))) (p.m - i) (omega (arith, inside.few)))

-- one clause further to the front, as the loops go
module _ (p : Problem) (i all : ℕ) (some : 0 < i) (most : i ≤ p.m) (is : all ≡ product (clauses_from p i (p.m - i))) where
  whole : i - 1 + 1 ≡ i
  whole = omega arith

  pub product-grown : (size : ℕ) → size ≡ size_of p (i - 1) → size * all ≡ product (clauses_from p (i - 1) (p.m - (i - 1)))
  product-grown size e =
      sym (product-front p (i - 1) (omega arith)
      ∙ ap₂ ◌*◌ (sym e) (ap (λ (d : ℕ). product (clauses_from p d (p.m - d))) whole ∙ sym is))

  pub rank-grown : (picks : List ℕ) (k pick before : ℕ) → i ≤ k → k ≤ length picks → pick ≡ at picks (i - 1) → before ≡ rank (clauses_from p i (p.m - i)) (drop i (take k picks)) → pick * all + before ≡ rank (clauses_from p (i - 1) (p.m - (i - 1))) (drop (i - 1) (take k picks))
  rank-grown picks k pick before l long e f =
      sym (rank-front p picks k (i - 1) (omega arith) long (omega arith)
      ∙ ap₂ ◌+◌ (ap₂ ◌*◌ (sym e) (ap (λ (d : ℕ). product (clauses_from p d (p.m - d))) whole ∙ sym is)) (ap (λ (d : ℕ). rank (clauses_from p d (p.m - d)) (drop d (take k picks))) whole ∙ sym f))

-- no position left
pub rank-end : (cs : List Clause) (picks : List ℕ) (k : ℕ) → rank cs (drop k (take k picks)) ≡ 0
rank-end cs picks k = ap (rank cs) (drop_of_length-le (take k picks) (let b : length (take k picks) ≤ k = omega (arith, length-take k picks) in b)) ∙ sym (rank-none cs)

pub product-end : (p : Problem) → product (clauses_from p p.m (p.m - p.m)) ≡ 1
unfolding product clauses_from
product-end p = ap (λ (c : ℕ). product (clauses_from p p.m c)) (let e : p.m - p.m ≡ 0 = omega arith in e)

-- ---- the alternatives left open
pub open-some : (cs : List Clause) (q : List ℕ) → 0 < open_at cs q
unfolding open_at
open-some cs [] = omega arith
open-some [] (i ∷ q) = omega arith
open-some (c ∷ cs) (i ∷ q) = omega (arith, open-some cs q)

-- fewer are open at the next standing
pub open_next : (cs : List Clause) (q r : List ℕ) → next cs q ≡ some r → open_at cs r < open_at cs q
unfolding next
open_next [] q r e = absurd (never (cc))
open_next (c ∷ cs) [] r e = absurd (never (cc))
open_next (c ∷ cs) (i ∷ q) r e = go (ltb (suc i) (length c)) refl (next cs q) refl e (λ t d. open_next cs q t d)
  where
    go : (b : Bool) → ltb (suc i) (length c) ≡ b → (o : Option (List ℕ)) → next cs q ≡ o → sideways b i o ≡ some r → ((t : List ℕ) → next cs q ≡ some t → open_at cs t < open_at cs q) → open_at (c ∷ cs) r < open_at (c ∷ cs) (i ∷ q)
    go b f (some t) d h k =
        unfold sideways open_at in
        subst (λ (x : List ℕ). open_at (c ∷ cs) x < length c - suc i + open_at cs q) (let z : i ∷ t ≡ r = cc in z) (omega (arith, k t d))
    go true f none d h k =
        unfold sideways open_at in
        subst (λ (x : List ℕ). open_at (c ∷ cs) x < length c - suc i + open_at cs q) (let z : suc i ∷ [] ≡ r = cc in z) (omega (arith, open-some cs q, ltb→lt (suc i) (length c) (subst T (sym f) tt)))
    go false f none d h k = unfold sideways in absurd (never (cc))
