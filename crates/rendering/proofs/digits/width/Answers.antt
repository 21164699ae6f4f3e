-- The power of 10 that a number reaches tells how many digits it has.
use Rattle.std.proofs.Common.{sym, arith}
use Rattle.rendering.proofs.Decimal.{decimal-length-below, decimal-length-power}
use Rattle.rendering.proofs.digits.width.Goals as goal

pub returns-in-Some-clause-exact : goal.returns-in-Some-clause-exact
returns-in-Some-clause-exact c =
    sym (decimal-length-power c.in-Some.power c.args.n c.in-Some.ensures.power_le c.in-Some.ensures.next_power_gt)

pub returns-in-None-clause-exact : goal.returns-in-None-clause-exact
returns-in-None-clause-exact c = sym (decimal-length-below c.args.n (omega (arith, c.in-None.ensures.none)))
