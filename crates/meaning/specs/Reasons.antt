-- The list of reasons: its rows as bytes, and what a reading of them is: 01, "The list of reasons". A row is W bytes. Definitions only.
use Rattle.std.specs.Prelude.{Bool, true, false, cond, ◌&&◌, List, [], ◌∷◌, ℕ, zero, suc, ◌-◌, ◌*◌, ◌/◌, leb, ltb, eqb, ℤ, pos, ◌+ℤ◌, length, get_or, take, drop, replicate}
use Rattle.std.proofs.Math.Option.{Option, some, none}
use Rattle.std.specs.Int.Signed.{lt_z}
use Rattle.meaning.specs.Limits.{most_alternatives, onward_mark, dead_mark, blank_byte}
use Rattle.meaning.specs.Problem.{Alternative, opposite, Clause}

-- ---- a cycle row
-- the fact with a number
unfoldable pub named : List Alternative → ℕ → Option Alternative
named [] b = none
named (a ∷ more) b = let r = named more b in cond (eqb b a.no) (some a) r

unfoldable pub given : Option Alternative → (Alternative → Bool) → Bool
given none f = false
given (some a) f = f a

-- "(x, y, c) is an arc from y to x of weight c": the arcs lead on from `here` back to `start`, and with z they sum below 0
unfoldable pub walk : List Alternative → ℕ → ℕ → ℤ → List ℕ → Bool
walk fs start here z [] = eqb here start && lt_z z (pos 0)
walk fs start here z (b ∷ bs) = given (named fs b) (λ a. eqb a.y here && walk fs start a.x (z +ℤ a.c) bs)

unfoldable pub loops : List Alternative → List ℕ → Bool
loops fs [] = false
loops fs (b ∷ bs) = given (named fs b) (λ a. walk fs a.y a.x a.c bs)

-- the numbers of a row, before its 255s
unfoldable pub numbers : List ℕ → List ℕ
numbers [] = []
numbers (b ∷ bs) = let r = b ∷ numbers bs in cond (eqb b blank_byte) [] r

unfoldable pub blank : List ℕ → Bool
blank [] = true
blank (b ∷ bs) = eqb b blank_byte && blank bs

-- after its first 255 all are 255
unfoldable pub filled : List ℕ → Bool
filled [] = true
filled (b ∷ bs) = cond (eqb b blank_byte) (blank bs) (filled bs)

-- "a cycle row holds" 1 number to as many as it has bytes, "then 255s", each a fact, in a closed walk of sum below 0
unfoldable pub cycle_over : List Alternative → List ℕ → Bool
cycle_over fs row = filled row && loops fs (numbers row)

-- ---- what a row is, by its first byte
unfoldable pub same : List ℕ → List ℕ → Bool
same [] [] = true
same [] (y ∷ ys) = false
same (x ∷ xs) [] = false
same (x ∷ xs) (y ∷ ys) = eqb x y && same xs ys

pub data Kind : Type 0 where
  ring onward bad : Kind
  dead_at : ℕ → Kind

module _ (W : ℕ) where
  -- a mark's first byte, and "the other bytes are 255"
  unfoldable pub mark_row : ℕ → List ℕ
  mark_row b = b ∷ replicate (W - 1) blank_byte

  unfoldable pub kind : List ℕ → Kind
  kind [] = bad
  kind (b ∷ bs) =
      cond (ltb b (2 * most_alternatives)) ring
      (cond (same (b ∷ bs) (mark_row onward_mark)) onward
      (cond (leb dead_mark b && same (b ∷ bs) (mark_row b)) (dead_at (b - dead_mark)) bad))

  -- ---- a reading, from the front of a list of rows: the rows after it, or none
  -- "after 200 + d, a cycle row for each alternative of d in order"
  unfoldable pub cycle_rows : List Alternative → Clause → List (List ℕ) → Option (List (List ℕ))
  cycle_rows fs [] rows = some rows
  cycle_rows fs (a ∷ more) [] = none
  cycle_rows fs (a ∷ more) (row ∷ rows) = let r = cycle_rows fs more rows in cond (cycle_over (a ∷ fs) row) r none

  -- "a reading of a standing is one cycle row over its facts, or a mark and what it calls for"; `down` reads what 240 calls for
  unfoldable pub front : Kind → List Clause → ℕ → List Alternative → List ℕ → List (List ℕ) → (List (List ℕ) → Option (List (List ℕ))) → Option (List (List ℕ))
  front ring cs k fs row rows down = cond (cycle_over fs row) (some rows) none
  front onward cs k fs row rows down = down rows
  front bad cs k fs row rows down = none
  front (dead_at d) cs k fs row rows down = let r = cycle_rows fs (get_or cs (d - k) []) rows in cond (leb k d && ltb (d - k) (length cs)) r none

  unfoldable pub reading : List Clause → ℕ → List Alternative → List (List ℕ) → (List (List ℕ) → Option (List (List ℕ))) → Option (List (List ℕ))
  reading cs k fs [] down = none
  reading cs k fs (row ∷ rows) down = front (kind row) cs k fs row rows down

  unfoldable pub and_read : Option (List (List ℕ)) → (List (List ℕ) → Option (List (List ℕ))) → Option (List (List ℕ))
  and_read none f = none
  and_read (some rows) f = f rows

  -- "a reading for each alternative of the next clause in order (none if it is empty)"
  unfoldable pub each_read : (List Alternative → List (List ℕ) → Option (List (List ℕ))) → Clause → List Alternative → List (List ℕ) → Option (List (List ℕ))
  each_read go [] fs rows = some rows
  each_read go (a ∷ more) fs rows = and_read (go (a ∷ fs) rows) (λ rest. each_read go more (opposite a ∷ fs) rest)

  -- the standing with k clauses chosen and the facts fs, the clauses cs to come: "after 240, allowed only where k is below m"
  unfoldable pub read : List Clause → ℕ → List Alternative → List (List ℕ) → Option (List (List ℕ))
  read [] k fs rows = reading [] k fs rows (λ rs. none)
  read (c ∷ cs) k fs rows = reading (c ∷ cs) k fs rows (λ rs. each_read (λ f r. read cs (suc k) f r) c fs rs)

  -- ---- the list as bytes
  -- the first k rows, and the bytes after them
  unfoldable pub cut : ℕ → List ℕ → List (List ℕ)
  cut zero bytes = []
  cut (suc k) bytes = take W bytes ∷ cut k (drop W bytes)

  -- the whole rows, "a last part row is not used"
  unfoldable pub rows_of : List ℕ → List (List ℕ)
  rows_of bytes = cut (length bytes / W) bytes

  unfoldable pub all_blank : List (List ℕ) → Bool
  all_blank [] = true
  all_blank (row ∷ rows) = blank row && all_blank rows

  unfoldable pub ends : Option (List (List ℕ)) → List ℕ → Bool
  ends none rest = false
  ends (some rows) rest = all_blank rows && blank rest

  -- "the front is one whole reading and all bytes after it are 255"
  unfoldable pub is_reading : List Clause → List ℕ → Bool
  is_reading cs bytes = ends (read cs 0 [] (rows_of bytes)) (drop (length bytes / W * W) bytes)
