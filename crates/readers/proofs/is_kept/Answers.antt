-- `readers::is_kept` meets its contract: the closure asks of each clause what all are asked. Assumes nothing.
use Rattle.std.proofs.Common.{◌≡◌, ◌-◌, refl, ◌∙◌, arith, rules}
use borrow.Author.Tests.{tests}
use Rattle.std.proofs.lemmas.Iterator.{YieldsList-from_range}
use Rattle.std.proofs.lemmas.Iterator.Search.{all_from_yields_List}
use Rattle.meaning.specs.Plain.{times_of}
use Rattle.meaning.specs.Verdicts.{some}
use Rattle.problem.specs.Laid.{clause_of}
use Rattle.readers.proofs.Keeping.{keeps-all}
use Rattle.readers.proofs.is_kept.Goals as goal

pub returns : goal.returns
returns c =
    let p = c.args.p.now in
    let n : p.m - 0 ≡ p.m = omega arith in
    all_from_yields_List (λ k. some (times_of c.args.times.now) (clause_of p k)) _ _ _ c.all.ensures.ran (YieldsList-from_range 0 p.m p.m refl n) (λ x b q r. search (rules, tests))
    ∙ keeps-all (times_of c.args.times.now) p 0 p.m
