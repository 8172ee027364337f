-- Demands 2 and 3 of the quick search, over the plain list. Assumes nothing.
use mathlib.Core.Path.{◌≡◌}
use mathlib.Core.List.{List, []}
use Prim.Native.Nat.{ℕ, ◌<◌}
use lib.IntN.{ℤ, pos}
use lib.Signed.{◌≤ℤ◌}
use lib.ListN.{length, get_or}
use Rattle.meaning.specs.Limits.{longest_day}
use Rattle.meaning.specs.Problem.{Clause, Timetable, Sound, Keeps}
use Rattle.meaning.specs.Plain.{Selection, chosen, Holds, selections, product, rank, times_of, Latest}
use Rattle.meaning.specs.Decision.{sound, time_of, latest_of}
use Rattle.meaning.specs.Search.{Standing, facts, Row, found, closed, stopped, search}
use Rattle.meaning.specs.Screen.{Lent, clauses_of}
use Rattle.meaning.proofs.Settling.{In}
use Rattle.meaning.proofs.First.{plan-first, none-holds, stop-place, stop-rules}
use Rattle.meaning.proofs.Plain.{plan-plain, none-plain, selections-length}
use Rattle.meaning.proofs.Kept.{keeps-selection, selection-keeps}
use Rattle.meaning.proofs.Deciding.{sound-decides, latest-is, latest-one}
use Rattle.meaning.proofs.Accepted.{Accepted, Bounded, chosen-each}
use Rattle.meaning.proofs.Range.{latest-range}

-- "the first selection in dictionary order that has a timetable, its latest timetable, the number of selections before it"
pub record FirstPlan (l : Lent) (choice : List ℕ) (before : ℕ) (day : List ℤ) : Type 0 where
  pub place : before < length (selections (clauses_of l))
  pub counted : length (selections (clauses_of l)) ≡ product (clauses_of l)
  pub there : get_or (selections (clauses_of l)) before [] ≡ choice
  pub selected : Selection (clauses_of l) choice
  pub ranked : before ≡ rank (clauses_of l) choice
  pub holds : Holds (clauses_of l) choice
  pub first : (j : ℕ) → j < before → ¬ Holds (clauses_of l) (get_or (selections (clauses_of l)) j [])
  pub latest : Latest l.n (chosen (clauses_of l) choice) day
  pub range : (e : ℕ) → e < l.n → (time_of longest_day ≤ℤ times_of day e) × (times_of day e ≤ℤ pos 0)
  -- demand 2: the plan keeps the problem
  pub kept : Keeps (times_of day) (clauses_of l)

-- none: every selection of the plain list fails, and before is their number; no timetable keeps the problem
pub record NoPlan (l : Lent) (before : ℕ) : Type 0 where
  pub counted : before ≡ product (clauses_of l)
  pub listed : before ≡ length (selections (clauses_of l))
  pub fail : (j : ℕ) → j < before → ¬ Holds (clauses_of l) (get_or (selections (clauses_of l)) j [])
  pub unkept : (t : Timetable) → Keeps t (clauses_of l) → ⊥

-- a stop: before is the rank of the sound standing that could not be visited, and the selections before it fail
pub record Halt (l : Lent) (before : ℕ) : Type 0 where
  pub standing : List ℕ
  pub stands : Standing (clauses_of l) standing
  pub could : Sound (facts (clauses_of l) standing [])
  pub ranked : before ≡ rank (clauses_of l) standing
  pub ruled : (q : List ℕ) → Selection (clauses_of l) q → rank (clauses_of l) q < before → ¬ Holds (clauses_of l) q

-- a problem is kept by some timetable exactly where some selection holds
pub kept-holds : (cs : List Clause) → ((q : List ℕ) → Selection cs q → ¬ Holds cs q) → (t : Timetable) → Keeps t cs → ⊥
kept-holds cs h t k = let (q, s, g) = keeps-selection t cs k in h q s (t, g)

module _ (l : Lent) (a : Accepted l) (v : ℕ) where
  selection-latest : (p : List ℕ) → Selection (clauses_of l) p → Holds (clauses_of l) p → Latest l.n (chosen (clauses_of l) p) (latest_of l.n (chosen (clauses_of l) p))
  selection-latest p s h = latest-is l.n (chosen (clauses_of l) p) (chosen-each (In l.n) (clauses_of l) p a.within s) h

  pub found_first : (p : List ℕ) (b w : ℕ) → search sound (clauses_of l) 0 [] v ≡ found p b w → FirstPlan l p b (latest_of l.n (chosen (clauses_of l) p))
  found_first p b w e =
      let k = plan-plain sound sound-decides (clauses_of l) v p b w e in
      let f = plan-first sound sound-decides (clauses_of l) v p b w e in
      let d = selection-latest p f.0.sel f.0.holds in
      record {
        place = k.0;
        counted = selections-length (clauses_of l);
        there = k.1;
        selected = f.0.sel;
        ranked = f.1;
        holds = k.2;
        first = k.3;
        latest = d;
        range = latest-range l.n (chosen (clauses_of l) p) a.most (chosen-each (In l.n) (clauses_of l) p a.within f.0.sel) (chosen-each Bounded (clauses_of l) p a.bounded f.0.sel) f.0.holds;
        kept = selection-keeps (times_of (latest_of l.n (chosen (clauses_of l) p))) (clauses_of l) p f.0.sel d.keeps;
      }

  -- the timetable is the same with the opposites left out: the latest of the standing's facts is that of the selection
  pub opposites-left-out : (p : List ℕ) (b w : ℕ) → search sound (clauses_of l) 0 [] v ≡ found p b w → (day : List ℤ) → Latest l.n (facts (clauses_of l) p []) day → day ≡ latest_of l.n (chosen (clauses_of l) p)
  opposites-left-out p b w e day d =
      let f = plan-first sound sound-decides (clauses_of l) v p b w e in
      latest-one l.n (chosen (clauses_of l) p) day (latest_of l.n (chosen (clauses_of l) p))
      (record { size = d.size; keeps = (f.2 (times_of day)).0 d.keeps; closing = d.closing; latest = λ t h c. d.latest t ((f.2 t).1 h) c })
      (selection-latest p f.0.sel f.0.holds)

  pub closed_none : (b : ℕ) (r : List Row) (w : ℕ) → search sound (clauses_of l) 0 [] v ≡ closed b r w → NoPlan l b
  closed_none b r w e =
      let k = none-plain sound sound-decides (clauses_of l) v b r w e in
      let h = none-holds sound sound-decides (clauses_of l) v b r w e in
      record { counted = h.1; listed = k.0; fail = k.1; unkept = kept-holds (clauses_of l) h.0 }

  pub stopped-halt : (b : ℕ) (r : List Row) (p : List ℕ) → search sound (clauses_of l) 0 [] v ≡ stopped b r p → Halt l b
  stopped-halt b r p e =
      let k = stop-place sound sound-decides (clauses_of l) v b r p e in
      record { standing = p; stands = k.0; could = k.1; ranked = k.2; ruled = stop-rules sound sound-decides (clauses_of l) v b r p e }
