-- `by_rounds` gives the row of the shortest reason: after t turns it has the best row of the fewest facts from the events below t. Assumes nothing.
use Rattle.std.specs.Option.{IsSomeAnd}
use Rattle.std.proofs.Common.{◌≡◌, List, ℕ, Option, Some, None, IsSome, rules, arith, refl}
use Rattle.shortest.proofs.Choosing.{best-passed, best-kept, best-new, best-old}
use Rattle.shortest.proofs.Naming.{best-names}
use Rattle.shortest.proofs.by_rounds.Goals as goal
use Rattle.shortest.proofs.by_rounds.Goals.{then-is_some_and+in-Some+then-goes_before, then-is_some_and+in-Some+else-goes_before, then-is_some_and+in_default, else-is_some_and}

pub loop-t-preserved : goal.loop-t-preserved
loop-t-preserved c =
    let l = c.loop-t in
    elim c.if-is_some_and.branch [
      | then-is_some_and+in-Some+then-goes_before w ↦ rw w.best-is (best-new _ _ l.t _ (omega arith) _ w.in-Some.ensures l.best l.invariant (search rules))
      | then-is_some_and+in-Some+else-goes_before w ↦ rw w.best-is (best-old _ _ l.t _ (omega arith) _ w.in-Some.ensures l.best l.invariant (search rules))
      | then-is_some_and+in_default w ↦ rw w.best-is (best-kept _ _ l.t _ l.best l.invariant w.in_default.ensures)
      | else-is_some_and w ↦ rw w.best-is (best-passed _ _ l.t _ l.best l.invariant _ c.lowest.ensures (search rules))
    ]

-- what a best row is like tells that there is one
there : (best : Option (List ℕ)) (P : List ℕ → Type 0) → IsSomeAnd best P → IsSome best
there (Some b) P h = refl
there None P h = elim h [ ]

pub unwrap-requires : goal.unwrap-requires
unwrap-requires c =
    let l = c.loop-t in
    let e : l.t ≡ c.args.n = omega arith in
    there l.best _ (best-names _ _ c.args.n c.requires.0 _ (omega (arith, c.fewest-size.ensures.1)) c.fewest-size.ensures.0 l.best (rw e at l.invariant) c.requires.2)

pub returns : goal.returns
returns c =
    let l = c.loop-t in
    let e : l.t ≡ c.args.n = omega arith in
    rw c.unwrap.ensures at (best-names _ _ c.args.n c.requires.0 _ (omega (arith, c.fewest-size.ensures.1)) c.fewest-size.ensures.0 l.best (rw e at l.invariant) c.requires.2)
