-- The numbers of a standing's facts stand for its facts, and each is an arc of the problem. Assumes nothing.
use mathlib.Core.Path.{◌≡◌, refl, sym, ap, ap₂, ◌∙◌, subst}
use mathlib.Core.List.{List, [], ◌∷◌, map}
use Prim.Native.Nat.{ℕ, zero, suc, ◌+◌, ◌-◌, ◌<◌, ◌≤◌}
use native.Mathlib.Nat.{not-suc-le-zero, le_of_suc-le-suc}
use native.Mathlib.Numerals.{add-one}
use native.Mathlib.Omega.{arith}
use lib.ListN.{length, get_or, take, drop, length-take, drop_of_length-le}
use lib.Seq.{drop-cons, get_or-take}
use Rattle.meaning.specs.Limits.{opposite_from}
use Rattle.meaning.specs.Problem.{Alternative}
use Rattle.meaning.specs.Plain.{nowhere, chosen}
use Rattle.meaning.specs.Search.{Standing, taking, facts}
use Rattle.problem.specs.declared.Problem.{Problem}
use Rattle.problem.specs.Arcs.{Net, at, arc, arcs_from, Known}
use Rattle.problem.specs.Laid.{arcs, size_of, clauses_from}
use Rattle.problem.proofs.Laying.{arcs-length, position-below, clause-ends, clause-last}
use Rattle.problem.proofs.Knowing.{known-none, known_more}
use Rattle.search.specs.Standing.{takes, standing_facts, chosen_facts, Inside}

-- ---- the numbers, as the loops go
-- an alternative passed over
pub takes_step : (L : List ℕ) (j last : ℕ) → j < last → takes j (last - j) L ≡ takes (j + 1) (last - (j + 1)) ((opposite_from + j) ∷ L)
unfolding takes
takes_step L j last h =
    ap (λ (d : ℕ). takes j d L) (let e : last - j ≡ suc (last - (j + 1)) = omega arith in e)
    ∙ ap (λ (i : ℕ). takes i (last - (j + 1)) ((opposite_from + j) ∷ L)) (let e : suc j ≡ j + 1 = omega arith in e)

-- the alternative chosen, once all before it are passed over
pub takes-last : (L : List ℕ) (j last : ℕ) → last ≡ j → takes j (last - j) L ≡ last ∷ L
unfolding takes
takes-last L j last h =
    ap (λ (d : ℕ). takes j d L) (let e : last - j ≡ 0 = omega arith in e) ∙ ap (λ (i : ℕ). i ∷ L) (sym h)

-- one clause more
pub standing-step : (starts picks L : List ℕ) (k c : ℕ) → c < k → k ≤ length picks → standing_facts starts c (drop c (take k picks)) L ≡ standing_facts starts (c + 1) (drop (c + 1) (take k picks)) (takes (at starts c) (at picks c) L)
unfolding standing_facts
standing-step starts picks L k c h m =
    ap (λ (q : List ℕ). standing_facts starts c q L) (drop-cons (take k picks) c 0 inside)
    ∙ ap (λ (i : ℕ). standing_facts starts (suc c) (drop (suc c) (take k picks)) (takes (at starts c) i L)) (get_or-take k picks c 0 h)
    ∙ ap (λ (d : ℕ). standing_facts starts d (drop d (take k picks)) (takes (at starts c) (at picks c) L)) (let e : suc c ≡ c + 1 = omega arith in e)
  where
    inside : c < length (take k picks)
    inside = omega (arith, length-take k picks)

-- no clause is left
pub all-taken : (starts picks L : List ℕ) (k c : ℕ) → c ≡ k → standing_facts starts c (drop c (take k picks)) L ≡ standing_facts starts 0 (take k picks) [] → L ≡ standing_facts starts 0 (take k picks) []
unfolding standing_facts
all-taken starts picks L k c e h =
    let over : length (take k picks) ≤ c = omega (arith, length-take k picks) in
    sym (ap (λ (q : List ℕ). standing_facts starts c q L) (drop_of_length-le (take k picks) over)) ∙ h

-- the first k picks are a standing exactly where each lies in its clause
pub inside-standing : (p : Problem) (picks : List ℕ) (k c : ℕ) → k ≤ length picks → ((i : ℕ) → i < k → at picks i < size_of p (c + i)) → (d : ℕ) → k ≤ d → Standing (clauses_from p c d) (take k picks)
unfolding clauses_from
inside-standing p picks zero c m h d l = tt
inside-standing p [] (suc k) c m h d l = absurd (not-suc-le-zero m)
inside-standing p (i ∷ picks) (suc k) c m h zero l = absurd (not-suc-le-zero l)
inside-standing p (i ∷ picks) (suc k) c m h (suc d) l = (
  subst (λ (s : ℕ). i < s) (sym (arcs-length (arcs p) (at p.starts c) (size_of p c))) (subst (λ (e : ℕ). i < size_of p e) (let e : c + 0 ≡ c = omega arith in e) (h 0 (omega arith))),
  inside-standing p picks k (suc c) (le_of_suc-le-suc m) (λ j b. subst (λ (e : ℕ). at picks j < size_of p e) (let e : c + suc j ≡ suc c + j = omega arith in e) (h (suc j) (omega arith))) d (le_of_suc-le-suc l),
)

-- ---- what the loops count by
module _ (p : Problem) where
  -- clause d ends where the next one begins
  pub clause-next : (d : ℕ) → d < p.m → at p.starts (d + 1) ≡ at p.starts d + size_of p d
  clause-next d h = ap (at p.starts) (add-one d) ∙ clause-last p d h

-- there is a pick for each of the first k positions
pub picks-enough : {p : Problem} {picks : List ℕ} {k : ℕ} → Inside p picks k → length picks ≡ 32 → k ≤ length picks
picks-enough {p} inside long = omega (arith, p.laid.few, inside.few)

module _ (p : Problem) where
  -- position i of the clause of s arcs from j on
  takes-taking : (j s i : ℕ) (L : List ℕ) → j + s ≤ at p.starts p.m → i < s → map (arc (arcs p)) (takes j i L) ≡ taking i (arcs_from (arcs p) j s) (map (arc (arcs p)) L)
  unfolding takes arcs_from
  takes-taking j zero i L h l = absurd (not-suc-le-zero l)
  takes-taking j (suc s) zero L h l = refl
  takes-taking j (suc s) (suc i) L h l =
      takes-taking (suc j) s i ((opposite_from + j) ∷ L) (omega arith) (le_of_suc-le-suc l)
      ∙ ap (λ (a : Alternative). taking i (arcs_from (arcs p) (suc j) s) (a ∷ map (arc (arcs p)) L)) (sym (p.laid.opposites j (omega arith)))

  -- the facts of a standing
  pub standing-facts : (k c : ℕ) (q L : List ℕ) → k + c ≤ p.m → Standing (clauses_from p k c) q → map (arc (arcs p)) (standing_facts p.starts k q L) ≡ facts (clauses_from p k c) q (map (arc (arcs p)) L)
  unfolding standing_facts clauses_from
  standing-facts k zero [] L h s = refl
  standing-facts k (suc c) [] L h s = refl
  standing-facts k zero (i ∷ q) L h s = absurd s
  standing-facts k (suc c) (i ∷ q) L h s =
      standing-facts (suc k) c q (takes (at p.starts k) i L) (omega arith) s.1
      ∙ ap (facts (clauses_from p (suc k) c) q) (takes-taking (at p.starts k) (size_of p k) i L (clause-ends p k (omega arith)) (rw (arcs-length (arcs p) (at p.starts k) (size_of p k)) at s.0))

  -- ---- each number is an arc
  takes-known : (j i : ℕ) (L : List ℕ) → j + i < at p.starts p.m → Known (arcs p) p.n L → Known (arcs p) p.n (takes j i L)
  unfolding takes
  takes-known j zero L l h = known_more (arcs p) p.n j L (p.laid.alternative j (omega arith)) h
  takes-known j (suc i) L l h =
      takes-known (suc j) i ((opposite_from + j) ∷ L) (omega arith) (known_more (arcs p) p.n (opposite_from + j) L (p.laid.turned j (omega arith)) h)

  pub standing-known : (k c : ℕ) (q L : List ℕ) → k + c ≤ p.m → Standing (clauses_from p k c) q → Known (arcs p) p.n L → Known (arcs p) p.n (standing_facts p.starts k q L)
  unfolding standing_facts clauses_from
  standing-known k zero [] L h s a = a
  standing-known k (suc c) [] L h s a = a
  standing-known k zero (i ∷ q) L h s a = absurd s
  standing-known k (suc c) (i ∷ q) L h s a =
      standing-known (suc k) c q (takes (at p.starts k) i L) (omega arith) s.1
      (takes-known (at p.starts k) i L (position-below p k (omega arith) i (rw (arcs-length (arcs p) (at p.starts k) (size_of p k)) at s.0)) a)

-- ---- the numbers of a selection
pub chosen-front : (starts picks : List ℕ) (m i : ℕ) → i < m → m ≤ length picks → chosen_facts starts i (drop i (take m picks)) ≡ (at starts i + at picks i) ∷ chosen_facts starts (i + 1) (drop (i + 1) (take m picks))
unfolding chosen_facts
chosen-front starts picks m i l long =
    ap (chosen_facts starts i) (drop-cons (take m picks) i 0 (let b : i < length (take m picks) = omega (arith, length-take m picks) in b))
    ∙ ap₂ (λ (x d : ℕ). (at starts i + x) ∷ chosen_facts starts d (drop d (take m picks))) (get_or-take m picks i 0 l) (let e : suc i ≡ i + 1 = omega arith in e)

pub chosen-end : (starts picks : List ℕ) (m : ℕ) → chosen_facts starts m (drop m (take m picks)) ≡ []
unfolding chosen_facts
chosen-end starts picks m = ap (chosen_facts starts m) (drop_of_length-le (take m picks) (let b : length (take m picks) ≤ m = omega (arith, length-take m picks) in b))

arcs-at : (g : Net) (j s i : ℕ) → i < s → get_or (arcs_from g j s) i nowhere ≡ arc g (j + i)
unfolding arcs_from
arcs-at g j zero i l = absurd (not-suc-le-zero l)
arcs-at g j (suc s) zero l = ap (arc g) (let e : j ≡ j + 0 = omega arith in e)
arcs-at g j (suc s) (suc i) l = arcs-at g (suc j) s i (le_of_suc-le-suc l) ∙ ap (arc g) (let e : suc j + i ≡ j + suc i = omega arith in e)

module _ (p : Problem) where
  pub chosen-facts : (k c : ℕ) (q : List ℕ) → k + c ≤ p.m → Standing (clauses_from p k c) q → map (arc (arcs p)) (chosen_facts p.starts k q) ≡ chosen (clauses_from p k c) q
  unfolding chosen_facts clauses_from
  chosen-facts k zero [] h s = refl
  chosen-facts k (suc c) [] h s = refl
  chosen-facts k zero (i ∷ q) h s = absurd s
  chosen-facts k (suc c) (i ∷ q) h s =
      ap₂ (λ (a : Alternative) (r : List Alternative). a ∷ r)
      (sym (arcs-at (arcs p) (at p.starts k) (size_of p k) i (rw (arcs-length (arcs p) (at p.starts k) (size_of p k)) at s.0)))
      (chosen-facts (suc k) c q (omega arith) s.1)

  pub chosen-known : (k c : ℕ) (q : List ℕ) → k + c ≤ p.m → Standing (clauses_from p k c) q → Known (arcs p) p.n (chosen_facts p.starts k q)
  unfolding chosen_facts clauses_from
  chosen-known k zero [] h s = known-none (arcs p) p.n
  chosen-known k (suc c) [] h s = known-none (arcs p) p.n
  chosen-known k zero (i ∷ q) h s = absurd s
  chosen-known k (suc c) (i ∷ q) h s =
      known_more (arcs p) p.n (at p.starts k + i) (chosen_facts p.starts (suc k) q)
      (p.laid.alternative (at p.starts k + i) (position-below p k (omega arith) i (rw (arcs-length (arcs p) (at p.starts k) (size_of p k)) at s.0)))
      (chosen-known (suc k) c q (omega arith) s.1)
