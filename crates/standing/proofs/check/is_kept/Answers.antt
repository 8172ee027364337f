-- `is_kept` meets its contract. Assumes nothing.
use mathlib.Core.Logic.{⊎_elim}
use borrow.Author.Tests.{le-ltb}
use Rattle.distances.specs.Numbers.{no_way}
use Rattle.standing.proofs.Singles.{kept-first, kept_second, kept-longest, kept-is}
use Rattle.standing.proofs.check.is_kept.Goals as goal

pub returns-then-p-ge-NO_WAY : goal.returns-then-p-ge-NO_WAY
returns-then-p-ge-NO_WAY c =
    let a = c.args in
    ⊎_elim (λ h. kept-first a.e a.p a.q h) (λ h. kept_second a.e a.p a.q h.1) c.then-p-ge-NO_WAY.either

pub returns-then-e-lt-NO_WAY : goal.returns-then-e-lt-NO_WAY
returns-then-e-lt-NO_WAY c = kept-is c.args.e c.args.p c.args.q c.if-p-ge-NO_WAY.false c.if-q-ge-NO_WAY.false c.if-e-lt-NO_WAY.true

pub returns-else-e-lt-NO_WAY : goal.returns-else-e-lt-NO_WAY
returns-else-e-lt-NO_WAY c =
    rw (le-ltb c.args.e no_way c.if-e-lt-NO_WAY.false)
    (kept-longest c.args.e c.args.p c.args.q c.if-p-ge-NO_WAY.false c.if-q-ge-NO_WAY.false c.if-e-lt-NO_WAY.false)
