-- `problem::refusing::all_bounds` meets its contract.
use Rattle.std.proofs.Common.{rules, ◌∙◌, List, ℤ, pos, get_or}
use borrow.Author.Tests.{tests}
use Rattle.std.proofs.lemmas.Iterator.Search.{all_from_yields_List}
use Rattle.meaning.specs.Screen.{is_bound}
use Rattle.problem.proofs.Threes.{YieldsList-from_threes, bounds-of}
use Rattle.problem.proofs.refusing.all_bounds.Goals as goal

pub returns : goal.returns
returns c =
    let ts = c.args.triples.now in
    all_from_yields_List (λ (t : List ℤ). is_bound (get_or t 2 (pos 0))) _ _ _ c.all.ensures.ran (YieldsList-from_threes ts (cc) (cc)) (λ x b q k. search (rules, tests))
    ∙ bounds-of is_bound ts
