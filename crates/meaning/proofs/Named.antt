-- Every row of a none is read as what it is: the facts of an accepted problem are told apart by their numbers, so a cycle row names the shortest reason of its facts, in as many
-- bytes as a row has. Assumes nothing.
use mathlib.Core.Path.{◌≡◌, refl, sym, ap, subst}
use mathlib.Core.Bool.{cond}
use mathlib.Core.List.{List, [], ◌∷◌, ◌++◌}
use Prim.Native.Nat.{ℕ, zero, suc, ◌+◌, ◌-◌, ◌*◌, ◌<◌, ◌≤◌}
use native.Mathlib.Omega.{arith}
use lib.Dec.{T, ltb}
use lib.IntN.{ℤ}
use lib.ListN.{length, get_or, replicate}
use mir.Facts.{yes_and}
use borrow.Author.Tests.{lt-ltb, le-ltb}
use Rattle.meaning.specs.Limits.{most_alternatives, row_bytes, opposite_from, blank_byte}
use Rattle.meaning.specs.Problem.{Alternative, opposite}
use Rattle.meaning.specs.Plain.{nowhere}
use Rattle.meaning.specs.Decision.{at, sound}
use Rattle.meaning.specs.Search.{Row, mark, cycle, closed, search}
use Rattle.meaning.specs.Reasons.{loops, numbers, filled, cycle_over}
use Rattle.meaning.specs.Shortest.{shortest}
use Rattle.meaning.specs.Listing.{row_of}
use Rattle.meaning.specs.Screen.{Lent, alternatives, clauses_of}
use Rattle.meaning.proofs.Settling.{Each, each_map, each-map₃, In}
use Rattle.meaning.proofs.Accepted.{Accepted, Every, Passes, passes, parted-every, alternatives-in, alternatives-count}
use Rattle.meaning.proofs.Numbered.{Numbered, named-each}
use Rattle.meaning.proofs.Unsound.{Cause, Causes, Caused, Both, search-caused}
use Rattle.meaning.proofs.Reading.{ReadAs}
use Rattle.meaning.proofs.Listing.{AllRead, padded-is, row-kind, row-numbers, row-filled}
use Rattle.meaning.proofs.Ways.{Way, loops-loop, loop-some}
use Rattle.meaning.proofs.Reasoning.{shortest-is, shortest-few}

-- ---- what a number stands for
-- "j for alternative j, 64 + j for its opposite"
stands_for : List Alternative → ℕ → Alternative
stands_for given j = cond (ltb j opposite_from) (get_or given j nowhere) (opposite (get_or given (j - opposite_from) nowhere))

-- a fact of the problem: told by its number, an arc's, and over its events
record Known (given : List Alternative) (n : ℕ) (a : Alternative) : Type 0 where
  stands : stands_for given a.no ≡ a
  small : a.no < 2 * most_alternatives
  inside : In n a

-- each alternative has the number of its place, from j on
numbers-follow : (j : ℕ) (xs : List ℤ) → Each (λ a. (j ≤ a.no) × (a.no < j + length (alternatives j xs)) × (get_or (alternatives j xs) (a.no - j) nowhere ≡ a)) (alternatives j xs)
unfolding alternatives
numbers-follow j [] = tt
numbers-follow j (x ∷ []) = tt
numbers-follow j (x ∷ (y ∷ [])) = tt
numbers-follow j (x ∷ (y ∷ (c ∷ more))) = (
  (omega arith, omega arith, let e : j - j ≡ 0 = omega arith in rw e refl),
  each_map (alternatives (suc j) more) (λ a (l, h, e). (omega arith, omega arith, let q : a.no - j ≡ suc (a.no - suc j) = omega arith in rw q e)) (numbers-follow (suc j) more),
)

module _ (given : List Alternative) (n : ℕ) where
  both-known : (a : Alternative) → a.no < most_alternatives → get_or given a.no nowhere ≡ a → In n a → Known given n a × Known given n (opposite a)
  unfolding stands_for opposite
  both-known a l e (h, k) = (
    record { stands = rw (lt-ltb a.no opposite_from l) e; small = omega arith; inside = (h, k) },
    record { stands = let q : opposite_from + a.no - opposite_from ≡ a.no = omega arith in rw (le-ltb (opposite_from + a.no) opposite_from (omega arith), q) (ap opposite e); small = omega arith; inside = (k, h) },
  )

-- so are the facts of an accepted problem, opposites among them
known : (l : Lent) → Accepted l → Every (Both sound (Known (alternatives 0 l.triples) l.n)) (clauses_of l)
unfolding clauses_of
known l a = parted-every _ 0 l.counts given (each-map₃ given (λ b i o _. both-known given l.n b (omega (arith, o.1, alternatives-count 0 l.triples, p.all)) (let q : b.no - 0 ≡ b.no = omega arith in rw q at o.2) i) (alternatives-in l.n 0 l.triples p.events) (numbers-follow 0 l.triples) (numbers-follow 0 l.triples))
  where
    p : Passes l
    p = passes l a.taken

    given : List Alternative
    given = alternatives 0 l.triples

-- ---- a cycle row
-- the numbers of a way are those of facts
way-small : (fs : List Alternative) (m : ℕ) → Each (λ a. a.no < m) fs → (l : List ℕ) (u v : ℕ) → Way fs u l v → (i : ℕ) → i < length l → at l i < m
way-small fs m h [] u v w i k = absurd (omega arith)
way-small fs m h (b ∷ bs) u v (a, e, f, w) zero k = let s = named-each (λ a. a.no < m) fs b a h e in omega (arith, s.0, s.1)
way-small fs m h (b ∷ bs) u v (a, e, f, w) (suc i) k = way-small fs m h bs a.x v w i (omega arith)

module _ (given : List Alternative) (n : ℕ) (fits : n ≤ row_bytes) where
  -- the shortest reason in a row of bytes is read as a cycle over the facts
  reason-read : (fs : List Alternative) → Cause sound (Known given n) fs → ReadAs row_bytes (cycle fs) (row_of row_bytes (cycle fs))
  unfolding row_of cycle_over
  reason-read fs (e, q) = rw (padded-is row_bytes l (omega (arith, few))) (row-kind row_bytes l (row_bytes - length l) some small, yes_and (filled row) (loops fs (numbers row)) (row-filled l (row_bytes - length l) small) (subst (λ (m : List ℕ). T (loops fs m)) (sym (row-numbers l (row_bytes - length l) small)) closes))
    where
      l : List ℕ
      l = shortest fs

      row : List ℕ
      row = l ++ replicate (row_bytes - length l) blank_byte

      told : Numbered (stands_for given) fs
      told = each_map fs (λ a k. k.stands) q

      closes : T (loops fs l)
      closes = (shortest-is (stands_for given) fs told e).closed

      few : length l ≤ n
      few = shortest-few (stands_for given) fs told e n (each_map fs (λ a k. k.inside) q)

      some : 0 < length l
      some = loop-some fs l (loops-loop fs l closes)

      small : (i : ℕ) → i < length l → at l i < 2 * most_alternatives
      small = way-small fs (2 * most_alternatives) (each_map fs (λ a k. k.small) q) l _ _ (loops-loop fs l closes).way

  rows-read : (r : List Row) → Causes sound (Known given n) r → AllRead row_bytes (omega arith) r
  rows-read [] h = tt
  rows-read (mark b ∷ r) h = (unfold row_of in refl, rows-read r h)
  rows-read (cycle fs ∷ r) h = (reason-read fs h.0, rows-read r h.1)

-- the rows of a none
pub none_rows : (l : Lent) → Accepted l → (v b : ℕ) (r : List Row) (w : ℕ) → search sound (clauses_of l) 0 [] v ≡ closed b r w → AllRead row_bytes (omega arith) r
none_rows l a v b r w e = rows-read (alternatives 0 l.triples) l.n a.most r (subst (Caused sound (Known (alternatives 0 l.triples) l.n)) e (search-caused sound (Known (alternatives 0 l.triples) l.n) (clauses_of l) 0 [] v (known l a) tt))
