-- A closed walk below 0 over facts, and so a cycle row, leaves them no timetable. Assumes nothing.
use mathlib.Core.Path.{◌≡◌, sym, ap, ap₂, ◌∙◌, subst}
use mathlib.Core.Bool.{Bool, ◌&&◌}
use mathlib.Core.List.{List, [], ◌∷◌}
use Prim.Native.Nat.{ℕ, suc, ◌+◌, ◌-◌, ◌<◌, ◌≤◌}
use native.Mathlib.Omega.{arith}
use lib.Dec.{T, eqb, eqb→eq, leb→le, le→leb, ltb→lt}
use lib.IntN.{ℤ, pos, negsuc, neg_ℤ, ◌+ℤ◌, ◌-ℤ◌, +ℤ_comm, +ℤ_assoc, +ℤ_invr, pos-+ℤ-pos, -ℤ-+ℤ_cancel}
use lib.Signed.{le_z, lt_z}
use mir.Facts.{and_yes}
use Rattle.laws.proofs.Differences.{above-is, below-is, Minus, below, above, minus}
use Rattle.meaning.specs.Problem.{Alternative, Timetable, satisfied, Satisfies}
use Rattle.meaning.specs.Reasons.{named, given, walk, loops, numbers, filled, cycle_over}
use Rattle.meaning.proofs.Deciding.{satisfies-each}
use Rattle.meaning.proofs.Ways.{given-some}
use Rattle.meaning.proofs.Numbered.{named-each}

-- a ≤ b exactly where b is a and a natural number
more-than : (a : ℤ) (k : ℕ) → T (le_z a (a +ℤ pos k))
more-than (pos n) k = le→leb n (n + k) (omega arith)
more-than (negsuc n) k = go (minus k (suc n))
  where
    go : {z : ℤ} → Minus k (suc n) z → T (le_z (negsuc n) z)
    go (below h) = le→leb (suc n - suc k) n (omega arith)
    go (above h) = tt

difference : (a b : ℤ) → T (le_z a b) → (k : ℕ) × (b ≡ a +ℤ pos k)
difference (pos a) (pos b) t = let h : a ≤ b = leb→le a b t in (b - a, ap pos (omega arith))
difference (pos a) (negsuc b) t = absurd t
difference (negsuc a) (pos b) t = (b + suc a, sym (above-is (b + suc a) (suc a) (omega arith) ∙ ap pos (omega arith)))
difference (negsuc a) (negsuc b) t =
    let l : b ≤ a = leb→le b a t in
    (a - b, sym (below-is (a - b) (suc a) (omega arith) ∙ ap negsuc (omega arith)))

-- orders add
add-le : (a b c d : ℤ) → T (le_z a b) → T (le_z c d) → T (le_z (a +ℤ c) (b +ℤ d))
add-le a b c d s t =
    let (k, p) = difference a b s in
    let (l, q) = difference c d t in
    subst (λ z. T (le_z (a +ℤ c) z)) (sym (ap₂ ◌+ℤ◌ p q ∙ swap a (pos k) c (pos l) ∙ ap (λ z. a +ℤ c +ℤ z) (pos-+ℤ-pos k l))) (more-than (a +ℤ c) (k + l))
  where
    swap : (a k c l : ℤ) → (a +ℤ k) +ℤ (c +ℤ l) ≡ (a +ℤ c) +ℤ (k +ℤ l)
    swap a k c l =
        +ℤ_assoc a k (c +ℤ l)
        ∙ ap (λ z. a +ℤ z) (sym (+ℤ_assoc k c l) ∙ ap (λ z. z +ℤ l) (+ℤ_comm k c) ∙ +ℤ_assoc c k l)
        ∙ sym (+ℤ_assoc a c (k +ℤ l))

-- a named fact is satisfied
named-satisfied : (t : Timetable) (fs : List Alternative) (b : ℕ) (f : Alternative → Bool) → Satisfies t fs → T (given (named fs b) f) → (a : Alternative) × T (satisfied t a) × T (f a)
named-satisfied t fs b f h g =
    let (a, e, s) = given-some fs b f g in
    (a, (named-each (λ a. T (satisfied t a)) fs b a (satisfies-each t fs h) e).0, s)

chain : (h s x : ℤ) → (h -ℤ s) +ℤ (x -ℤ h) ≡ x -ℤ s
chain h s x = +ℤ_comm (h -ℤ s) (x -ℤ h) ∙ sym (+ℤ_assoc (x -ℤ h) h (neg_ℤ s)) ∙ ap (λ m. m +ℤ neg_ℤ s) (-ℤ-+ℤ_cancel x h)

-- one arc more
arc-on : (t : Timetable) (start here : ℕ) (z : ℤ) (a : Alternative) → T (le_z (t here -ℤ t start) z) → T (satisfied t a) → a.y ≡ here → T (le_z (t a.x -ℤ t start) (z +ℤ a.c))
unfolding satisfied
arc-on t start here z a s o e =
    subst (λ w. T (le_z w (z +ℤ a.c))) (chain (t here) (t start) (t a.x))
    (add-le (t here -ℤ t start) z (t a.x -ℤ t here) a.c s (subst (λ y. T (le_z (t a.x -ℤ t y) a.c)) e o))

below-zero : (z : ℤ) → T (le_z (pos 0) z) → T (lt_z z (pos 0)) → ⊥
below-zero (pos n) s g = let h : n < 0 = ltb→lt n 0 g in omega arith
below-zero (negsuc n) s g = s

-- a way from start to here of sum z: t here − t start ≤ z
walk_none : (t : Timetable) (fs : List Alternative) → Satisfies t fs → (start here : ℕ) (z : ℤ) (bs : List ℕ) → T (le_z (t here -ℤ t start) z) → T (walk fs start here z bs) → ⊥
unfolding walk
walk_none t fs h start here z [] s g =
    below-zero z
    (subst (λ w. T (le_z w z)) (+ℤ_invr (t start)) (subst (λ e. T (le_z (t e -ℤ t start) z)) (eqb→eq here start (and_yes (eqb here start) (lt_z z (pos 0)) g).0) s))
    (and_yes (eqb here start) (lt_z z (pos 0)) g).1
walk_none t fs h start here z (b ∷ bs) s g =
    go (named-satisfied t fs b (λ a. eqb a.y here && walk fs start a.x (z +ℤ a.c) bs) h g)
    (λ a o k. walk_none t fs h start a.x (z +ℤ a.c) bs o k)
  where
    go : ((a : Alternative) × T (satisfied t a) × T (eqb a.y here && walk fs start a.x (z +ℤ a.c) bs)) → ((a : Alternative) → T (le_z (t a.x -ℤ t start) (z +ℤ a.c)) → T (walk fs start a.x (z +ℤ a.c) bs) → ⊥) → ⊥
    go (a, o, k) on =
        on a (arc-on t start here z a s o (eqb→eq a.y here (and_yes (eqb a.y here) (walk fs start a.x (z +ℤ a.c) bs) k).0))
        (and_yes (eqb a.y here) (walk fs start a.x (z +ℤ a.c) bs) k).1

-- a closed walk below 0 over facts leaves them no timetable
pub loops-none : (t : Timetable) (fs : List Alternative) (l : List ℕ) → T (loops fs l) → Satisfies t fs → ⊥
unfolding loops
loops-none t fs [] g h = g
loops-none t fs (b ∷ bs) g h = first (named-satisfied t fs b (λ a. walk fs a.y a.x a.c bs) h g)
  where
    first : ((a : Alternative) × T (satisfied t a) × T (walk fs a.y a.x a.c bs)) → ⊥
    first (a, o, w) = walk_none t fs h a.y a.x a.c bs (unfold satisfied in o) w

pub cycle-none : (t : Timetable) (fs : List Alternative) (row : List ℕ) → T (cycle_over fs row) → Satisfies t fs → ⊥
unfolding cycle_over
cycle-none t fs row g h = loops-none t fs (numbers row) (and_yes (filled row) (loops fs (numbers row)) g).1 h
