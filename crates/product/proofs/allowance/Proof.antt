-- `allowance` meets its contract: 1 + b is at most 2 ^ 32, so its product with a number of 32 bits has 64.
-- Assumes nothing.
use native.Mathlib.Omega.{arith}
use native.Mathlib.Nat.{mul-le-mul_right}
use borrow.Author.Rules.{rules}
use Rattle.product.proofs.allowance.Statement.{statement}
use Rattle.product.proofs.allowance.Tie as tie

product-requires : tie.Need-product-requires
product-requires c κs = tt

add-result : tie.Need-overflow_add-result
add-result c =
    let g = c.before in
    omega (arith, c.product.ensures, mul-le-mul_right g.args.count g.ranges.b.fits, g.ranges.count.fits)

returns : tie.Need-returns
returns c = search rules

pub allowance_spec : {M : Type 1} → statement M
allowance_spec = tie.close (tie.spec product-requires add-result returns)
