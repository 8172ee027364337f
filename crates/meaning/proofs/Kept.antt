-- A timetable keeps a problem exactly where it satisfies the alternatives of a selection. Assumes nothing.
use mathlib.Core.Logic.{inl, inr}
use mathlib.Core.List.{List, [], ◌∷◌}
use Prim.Native.Nat.{ℕ, zero, suc, ◌<◌, zero-le, suc-le-suc}
use native.Mathlib.Nat.{le_of_suc-le-suc, not-suc-le-zero}
use lib.Dec.{T}
use lib.ListN.{length, get_or}
use Rattle.meaning.specs.Problem.{Clause, Timetable, satisfied, Satisfies, Some, Keeps}
use Rattle.meaning.specs.Plain.{Selection, nowhere, chosen}

some_at : (t : Timetable) (c : Clause) → Some t c → (i : ℕ) × (i < length c) × T (satisfied t (get_or c i nowhere))
some_at t [] h = absurd h
some_at t (a ∷ more) (inl h) = (0, suc-le-suc zero-le, h)
some_at t (a ∷ more) (inr h) = let (i, l, o) = some_at t more h in (suc i, suc-le-suc l, o)

at_some : (t : Timetable) (c : Clause) (i : ℕ) → i < length c → T (satisfied t (get_or c i nowhere)) → Some t c
at_some t [] i l h = absurd (not-suc-le-zero l)
at_some t (a ∷ more) zero l h = inl h
at_some t (a ∷ more) (suc i) l h = inr (at_some t more i (le_of_suc-le-suc l) h)

pub keeps-selection : (t : Timetable) (cs : List Clause) → Keeps t cs → (q : List ℕ) × Selection cs q × Satisfies t (chosen cs q)
keeps-selection t [] h = ([], tt, tt)
keeps-selection t (c ∷ cs) h =
    let (i, l, o) = some_at t c h.0 in
    let (q, s, g) = keeps-selection t cs h.1 in
    (i ∷ q, (l, s), (o, g))

pub selection-keeps : (t : Timetable) (cs : List Clause) (q : List ℕ) → Selection cs q → Satisfies t (chosen cs q) → Keeps t cs
selection-keeps t [] q s h = tt
selection-keeps t (c ∷ cs) [] s h = absurd s
selection-keeps t (c ∷ cs) (i ∷ q) s h = (at_some t c i s.0 h.0, selection-keeps t cs q s.1 h.1)
