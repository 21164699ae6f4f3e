-- `product` meets its contract: the largest rows, the upper one shifted, add up to the product of the largest numbers, which has 64 bits.
-- Assumes nothing.
use Prim.Native.Nat.{◌+◌, ◌*◌, ◌%◌, ◌^◌}
use mathlib.Core.Path.{◌∙◌}
use native.Mathlib.Omega.{arith}
use native.Mathlib.Nat.{mod-lt}
use lib.Pow.{pow_pos, shr_lt}
use borrow.Author.Rules.{rules}
use Rattle.product.proofs.Pieces.{row-le, placed}
use Rattle.product.proofs.product.Statement.{statement}
use Rattle.product.proofs.product.Tie as tie

cast-row : tie.Need-overflow_cast-a
cast-row c = search rules

row-requires : tie.Need-row-low-requires
row-requires c κs = tt

cast-row-2 : tie.Need-overflow_cast-a-2
cast-row-2 c = search rules

row-requires-2 : tie.Need-row-high-requires
row-requires-2 c κs = tt

add-result : tie.Need-overflow_add-result
add-result c =
    let g = c.before.before in
    omega (
      arith,
      c.before.row-low.ensures,
      row-le (mod-lt g.args.a (pow_pos 16)) g.ranges.b.fits,
      c.row-high.ensures,
      row-le (shr_lt 16 16 g.ranges.a.fits) g.ranges.b.fits,
    )

returns : tie.Need-returns
returns c =
    let g = c.before.before in
    (λ i. c.before.row-low.ensures i + c.row-high.ensures i * 2 ^ 16 % 2 ^ 64)
    ∙ placed g.args.a g.args.b g.ranges.a.fits g.ranges.b.fits

pub product_spec : {M : Type 1} → statement M
product_spec =
    tie.close (tie.spec cast-row row-requires cast-row-2 row-requires-2 add-result returns)
