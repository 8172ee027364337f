-- `script::check_end` meets its contract. Assumes nothing.
use mathlib.Core.Path.{◌≡◌}
use Prim.Native.Nat.{◌≤◌, ◌<◌}
use native.Mathlib.Omega.{arith}
use borrow.Author.Rules.{rules}
use borrow.Author.Tests.{lt-leb, le-leb}
use lib.ListN.{length}
use Rattle.meaning.specs.Limits.{most_events}
use Rattle.meaning.specs.declared.Refusal.TheVariants.{Events}
use Rattle.script.specs.Reading.{with_check}
use Rattle.script.proofs.Declaring.{names-count}
use Rattle.script.proofs.Taking.{kept_on, took-refused, took-going}
use Rattle.script.proofs.reading.check_end.Goals as goal

pub returns-then-notes-eq0 : goal.returns-then-notes-eq0
unfolding with_check
returns-then-notes-eq0 c =
    let r = c.args.notes in
    let s : length r.names.spans ≡ most_events = search rules in
    let none : r.names.n < 1 = omega arith in
    record {
      took = λ text piece ready.
          took-refused text piece r ready with_check Events 0 c.into.ensures (λ R a. rw (← a.names-are, names-count text r.names ready.kept.names-within.few s, lt-leb 1 r.names.n none));
    }

pub returns : goal.returns
unfolding with_check
returns c =
    let r = c.args.notes in
    let s : length r.names.spans ≡ most_events = search rules in
    let some : 1 ≤ r.names.n = omega arith in
    record {
      took = λ text piece ready.
          took-going text piece r ready with_check r (λ R. R) (kept_on text piece r ready)
          (λ R a. rw (← a.names-are, names-count text r.names ready.kept.names-within.few s, le-leb 1 r.names.n some))
          (λ R a. a);
    }
