-- `planner::found` meets its contract: the place holds a whole selection. Assumes nothing.
use mathlib.Core.Path.{sym, ap, ap₂, ◌∙◌}
use mathlib.Core.List.{List, ◌++◌}
use Prim.Native.Nat.{ℕ}
use lib.ListN.{take, drop}
use Rattle.meaning.specs.declared.Answer.TheVariants.{Plan}
use Rattle.meaning.specs.Plain.{chosen}
use Rattle.meaning.specs.Decision.{latest_of}
use Rattle.problem.specs.Laid.{clauses_in}
use Rattle.planner.proofs.found.Goals as goal

pub returns : goal.returns
returns c =
    let s = c.args.s.standing in
    record {
      says = ap (Plan c.args.s.visits) c.rank_of.ensures;
      day = c.put_day.ensures ∙ ap (λ (d : ℕ). latest_of c.args.p.now.n (chosen (clauses_in c.args.p.now) (take d s.picks)) ++ drop c.args.p.now.n c.args.timetable.now) (sym c.requires.1);
      choice = ap₂ (λ (l : List ℕ) (d : ℕ). l ++ drop d c.args.picks.now) c.copy_from_slice.ensures.after c.requires.1;
    }
