-- `entries_of` meets its contract. Assumes nothing.
use Prim.Native.Nat.{ℕ, ◌*◌}
use borrow.Author.Rules.{rules}
use lib.IntN.{pos}
use Rattle.meaning.specs.Limits.{most_events}
use Rattle.problem.specs.Arcs.{at}
use Rattle.distances.specs.Numbers.{distance}
use Rattle.standing.specs.Entries.{entry_of}
use Rattle.standing.proofs.Listed.{list-is}
use Rattle.standing.proofs.numbers.entries_of.Goals as goal

pub returns : goal.returns
returns c =
    list-is (most_events * most_events) (λ (k : ℕ). entry_of (distance (at c.args.numbers.now k))) (pos 0) c.map.result c.map.ensures.items.long
    (λ k l. let (f, g, called) = c.map.ensures.items.at k 0 (pos 0) l in search rules)
