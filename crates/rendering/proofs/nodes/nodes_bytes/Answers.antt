-- Each turn counts a space, a letter and the digits of the argument, which are at most 5.
use Rattle.std.proofs.Common.{get_or, length, arith, ap}
use Rattle.rendering.specs.Decimal.{decimal}
use Rattle.rendering.proofs.Decimal.{decimal-few}
use Rattle.rendering.proofs.TermLine.{bytes_next}
use Rattle.rendering.proofs.nodes.nodes_bytes.Goals as goal

pub loop-argument-preserved : goal.loop-argument-preserved
loop-argument-preserved c =
    let i = c.loop-argument.argument-index in
    let m = get_or c.args.args.now i 0 in
    let few = decimal-few 4 m (omega (arith, c.type_inv.args i)) in
    let digits = ap (λ k. length (decimal k)) c.from.ensures in
    record {
      counted = omega (arith, bytes_next c.args.args.now i c.loop-argument-test.true, digits, c.width.ensures.exact, c.loop-argument.invariant.counted);
      few = omega (arith, few, digits, c.width.ensures.exact, c.loop-argument.invariant.few);
    }
