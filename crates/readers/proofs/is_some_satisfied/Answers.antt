-- `readers::is_some_satisfied` meets its contract: the closure asks of one alternative what the clause asks of each. Assumes nothing.
use Rattle.std.proofs.Common.{◌≡◌, suc, ◌+◌, ◌-◌, ◌≤◌, refl, ◌∙◌, arith, rules}
use borrow.Author.Tests.{tests}
use Rattle.std.proofs.lemmas.Iterator.{YieldsList-from_range, serves_from_Range}
use Rattle.std.proofs.lemmas.Iterator.Search.{any_from_yields_List}
use Rattle.meaning.specs.Plain.{times_of}
use Rattle.meaning.specs.Problem.{satisfied}
use Rattle.problem.specs.Arcs.{at, arc, Arc}
use Rattle.problem.specs.Laid.{arcs}
use Rattle.readers.proofs.Keeping.{some-any}
use Rattle.readers.proofs.is_some_satisfied.Goals as goal

pub any-requires-clause-callable : goal.any-requires-clause-callable
any-requires-clause-callable c =
    let p = c.args.p.now in
    let last : at p.starts (c.args.k + 1) ≤ at p.starts p.m = p.laid.ends (c.args.k + 1) (omega arith) in
    serves_from_Range (λ x q r. search (rules, tests)) (λ x l h. let a : Arc (arcs p) p.n x = p.laid.alternative x (omega arith) in search rules)

pub returns : goal.returns
returns c =
    let p = c.args.p.now in
    let k = c.args.k in
    let next : suc k ≡ k + 1 = omega arith in
    any_from_yields_List (λ j. satisfied (times_of c.args.times.now) (arc (arcs p) j)) _ _ _ c.any.ensures.ran (YieldsList-from_range (at p.starts k) (at p.starts (k + 1)) (at p.starts (k + 1) - at p.starts k) refl refl) (λ x b q r. search (rules, tests))
    ∙ some-any (times_of c.args.times.now) (arcs p) (at p.starts k) (at p.starts (k + 1) - at p.starts k)
    ∙ rw next refl
