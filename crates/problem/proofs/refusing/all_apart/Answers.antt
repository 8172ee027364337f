-- `problem::refusing::all_apart` meets its contract.
use Rattle.std.proofs.Common.{rules, ◌∙◌, List, ℤ, pos, get_or}
use borrow.Author.Tests.{tests}
use Rattle.std.proofs.lemmas.Iterator.Search.{all_from_yields_List}
use Rattle.meaning.specs.Screen.{are_apart}
use Rattle.problem.proofs.Threes.{YieldsList-from_threes, events-of}
use Rattle.problem.proofs.refusing.all_apart.Goals as goal

pub returns : goal.returns
returns c =
    let ts = c.args.triples.now in
    all_from_yields_List (λ (t : List ℤ). are_apart (get_or t 0 (pos 0)) (get_or t 1 (pos 0))) _ _ _ c.all.ensures.ran (YieldsList-from_threes ts (cc) (cc)) (λ x b q k. search (rules, tests))
    ∙ events-of are_apart ts
