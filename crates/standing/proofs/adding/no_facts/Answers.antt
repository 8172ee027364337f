-- `no_facts` meets its contract. Assumes nothing.
use mathlib.Core.Path.{ap, ◌∙◌}
use Prim.Native.Nat.{ℕ, ◌*◌, ◌<◌}
use lib.IntN.{ℤ}
use lib.ListN.{get_or-replicate}
use mathlib.Core.List.{List}
use Rattle.meaning.specs.Limits.{most_events}
use Rattle.distances.specs.Numbers.{no_way}
use Rattle.standing.specs.Entries.{entry_of, day_with}
use Rattle.standing.proofs.Listed.{list_same}
use Rattle.standing.proofs.Making.{fresh-place}
use Rattle.standing.proofs.adding.no_facts.Goals as goal

pub returns : goal.returns
unfolding day_with
returns c =
    let begun = rw (c.grid.ensures.0, c.grid.ensures.1, c.grid.ensures.2) at c.begin.ensures in
    ap (λ (l : List ℤ). record { n = c.args.n; entries = l })
    (c.entries_of.ensures
    ∙ list_same (most_events * most_events) _ _ (λ k l. ap entry_of (fresh-place _ _ c.args.n c.requires (λ (k : ℕ) (l : k < most_events * most_events). get_or-replicate (most_events * most_events) k no_way 0 l) begun k l)))
