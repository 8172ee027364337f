-- The shortest reason, which a cycle row names: 02, A7. What it is, and the same as a definition that computes; that the two agree is shown in proofs/Finding.
-- Definitions only.
use Rattle.std.specs.Prelude.{◌≡◌, cond, ◌&&◌, List, [], ◌∷◌, ℕ, zero, suc, ◌≤◌, ◌<◌, max, T, eqb, ℤ, pos, ◌+ℤ◌, length}
use Rattle.std.proofs.Math.Option.{Option, some, none, map}
use Rattle.std.specs.Int.Signed.{lt_z}
use Rattle.meaning.specs.Problem.{Alternative}
use Rattle.meaning.specs.Plain.{◌≺◌}
use Rattle.meaning.specs.Decision.{at, reach}
use Rattle.meaning.specs.Reasons.{named, loops}

-- ---- what it is
-- a closed walk over the facts of sum below 0: "a negative cycle with the fewest arcs", and of those the one that comes "first in dictionary order"
pub record Shortest (fs : List Alternative) (row : List ℕ) : Type 0 where
  pub closed : T (loops fs row)
  pub fewest : (l : List ℕ) → T (loops fs l) → length row ≤ length l
  pub first : (l : List ℕ) → T (loops fs l) → length l ≡ length row → l ≺ row → ⊥

-- "rows start at that smallest number"
pub record FromSmallest (row : List ℕ) : Type 0 where
  pub smallest : (i : ℕ) → i < length row → at row 0 ≤ at row i

-- the same in A7's own words: each cycle is "read from its smallest number", and only such readings are compared
pub record AsWorded (fs : List Alternative) (row : List ℕ) : Type 0 where
  pub closed : T (loops fs row)
  pub fewest : (l : List ℕ) → T (loops fs l) → length row ≤ length l
  pub starts : FromSmallest row
  pub first : (l : List ℕ) → T (loops fs l) → length l ≡ length row → FromSmallest l → l ≺ row → ⊥

-- ---- as it is computed
unfoldable pub or_else : Option (List ℕ) → Option (List ℕ) → Option (List ℕ)
or_else none o = o
or_else (some l) o = some l

-- what f gives for the first number below n for which it gives a list
unfoldable pub first_below : ℕ → (ℕ → Option (List ℕ)) → Option (List ℕ)
first_below zero f = none
first_below (suc n) f = let r = f n in or_else (first_below n f) r

-- above every number of a fact
unfoldable pub top : List Alternative → ℕ
top [] = 0
top (a ∷ more) = max (suc a.no) (top more)

-- number b and what f gives for its fact
unfoldable pub begun_by : ℕ → Option Alternative → (Alternative → Option (List ℕ)) → Option (List ℕ)
begun_by b none f = none
begun_by b (some a) f = map (λ l. b ∷ l) (f a)

-- the first k numbers in dictionary order whose arcs lead on from `here` back to `start`, and with z sum below 0
unfoldable pub led_back : List Alternative → ℕ → ℕ → ℤ → ℕ → Option (List ℕ)
led_back fs start here z zero = cond (eqb here start && lt_z z (pos 0)) (some []) none
led_back fs start here z (suc k) = first_below (top fs) (λ b. begun_by b (named fs b) (λ a. let r = led_back fs start a.x (z +ℤ a.c) k in cond (eqb a.y here) r none))

-- the first closed walk of k arcs below 0
unfoldable pub closed_by : List Alternative → ℕ → Option (List ℕ)
closed_by fs zero = none
closed_by fs (suc k) = first_below (top fs) (λ b. begun_by b (named fs b) (λ a. led_back fs a.y a.x a.c k))

unfoldable pub or_none : Option (List ℕ) → List ℕ
or_none none = []
or_none (some l) = l

-- that of the fewest arcs, of which there are no more than events; none where the facts have a timetable
unfoldable pub shortest : List Alternative → List ℕ
shortest fs = or_none (first_below (suc (reach fs)) (closed_by fs))
