-- `problem::loading::check` meets its contract: what is not refused passes, so it can be loaded, and what is loaded is laid out as the tests use it.
use Rattle.std.proofs.Common.{sym, refl}
use Rattle.meaning.proofs.Accepted.{passes}
use Rattle.problem.proofs.Acceptance.{loadable, counts-small, laid_out, reads}
use Rattle.problem.proofs.loading.check.Goals as goal

pub starts_of-requires : goal.starts_of-requires
starts_of-requires c = let p = passes _ (sym c.in_ok-refusal.ensures) in (p.few, counts-small _ p)

pub load-requires : goal.load-requires
load-requires c = loadable _ (passes _ (sym c.in_ok-refusal.ensures))

pub invariant_of-result : goal.invariant_of-result
invariant_of-result c = record { laid = rw (c.starts_of.ensures, c.load.ensures) (laid_out _ (passes _ (sym c.in_ok-refusal.ensures))) }

pub returns-clause-reads : goal.returns-clause-reads
returns-clause-reads c =
    reads _ (passes _ (sym c.in_ok-refusal.ensures)) _ (record { n = refl; m = refl; starts = c.starts_of.ensures; arcs = c.load.ensures })
