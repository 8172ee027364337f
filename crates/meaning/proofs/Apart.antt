-- What A6 leaves of an accepted problem: no arc leads from an event to itself, neither an alternative's nor an opposite's. So a cycle has two arcs
-- at the least. Assumes nothing.
use mathlib.Core.Path.{◌≡◌, sym}
use mathlib.Core.Bool.{◌&&◌}
use mathlib.Core.List.{List, [], ◌∷◌}
use Prim.Native.Nat.{ℕ, zero, suc, ◌≤◌}
use native.Mathlib.Omega.{arith}
use mir.Facts.{and_yes, eqb_yes}
use lib.Dec.{T, eqb}
use lib.IntN.{pos}
use lib.Signed.{lt_z}
use lib.ListN.{length}
use Rattle.meaning.specs.Problem.{Alternative, opposite, Clause}
use Rattle.meaning.specs.Search.{taking, facts}
use Rattle.meaning.specs.Reasons.{walk, loops}
use Rattle.meaning.specs.Screen.{Lent, clauses_of, problem_refusal}
use Rattle.meaning.proofs.Settling.{Each}
use Rattle.meaning.proofs.Accepted.{Every, Apart, accepted}
use Rattle.meaning.proofs.Ways.{given-some}
use Rattle.meaning.proofs.Numbered.{named-each}

-- an opposite names the same two events
opposite-apart : (a : Alternative) → Apart a → Apart (opposite a)
unfolding opposite
opposite-apart a f e = f (sym e)

taking-apart : (i : ℕ) (c : Clause) (fs : List Alternative) → Each Apart c → Each Apart fs → Each Apart (taking i c fs)
taking-apart i [] fs d f = f
taking-apart zero (a ∷ more) fs d f = (d.0, f)
taking-apart (suc i) (a ∷ more) fs d f = taking-apart i more (opposite a ∷ fs) d.1 (opposite-apart a d.0, f)

facts-apart : (cs : List Clause) (p : List ℕ) (fs : List Alternative) → Every Apart cs → Each Apart fs → Each Apart (facts cs p fs)
facts-apart [] p fs d f = f
facts-apart (c ∷ cs) [] fs d f = f
facts-apart (c ∷ cs) (i ∷ p) fs d f = facts-apart cs p (taking i c fs) d.1 (taking-apart i c fs d.0 f)

-- no fact of a standing, chosen or opposite, holds an event against itself
pub no-arc-to-itself : (l : Lent) → problem_refusal l ≡ 0 → (p : List ℕ) → Each Apart (facts (clauses_of l) p [])
no-arc-to-itself l e p = facts-apart (clauses_of l) p [] (accepted l e).apart tt

-- a closed walk of one arc would end where it starts
pub two-arcs : (fs : List Alternative) (bs : List ℕ) → Each Apart fs → T (loops fs bs) → 2 ≤ length bs
unfolding loops walk
two-arcs fs [] d t = absurd t
two-arcs fs (b ∷ []) d t =
    let (a, e, s) = given-some fs b (λ a. eqb a.x a.y && lt_z a.c (pos 0)) t in
    absurd ((named-each Apart fs b a d e).0 (eqb_yes (and_yes (eqb a.x a.y) (lt_z a.c (pos 0)) s).0))
two-arcs fs (b ∷ (e ∷ bs)) d t = omega arith
