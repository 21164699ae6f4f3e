use Rattle.std.proofs.Common.{[], ◌∷◌, ap, arith}
use Rattle.exporting.proofs.Writers.{bit-is, bit-begun, bit-full, puts-as}
use Rattle.exporting.proofs.putting.put_bit.Goals as goal

pub returns-then-count-lt8 : goal.returns-then-count-lt8
returns-then-count-lt8 c =
    let bit = bit-is c.args.bit c.from.result c.from.ensures in
    puts-as (ap (λ q. q ∷ []) bit.1) (bit-begun c.args.writer c.from.result bit.0 c.args.out.now c.if-count-lt8.true)

pub returns : goal.returns
returns c =
    let bit = bit-is c.args.bit c.from.result c.from.ensures in
    puts-as (ap (λ q. q ∷ []) bit.1)
    (bit-full c.args.writer c.from.result bit.0 c.args.out.now c.requires.few c.if-count-lt8.false (omega (arith, c.requires.fits)))
