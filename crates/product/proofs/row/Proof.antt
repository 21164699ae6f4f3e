-- `row` meets its contract: the product of two pieces has at most 32 bits, and the sum at most 48.
-- Assumes nothing.
use Prim.Native.Nat.{◌*◌, ◌/◌, ◌%◌, ◌^◌, ◌<◌}
use mathlib.Core.Path.{◌∙◌}
use native.Mathlib.Omega.{arith}
use native.Mathlib.Nat.{mul_comm, mod-lt}
use lib.Pow.{pow_pos, shr_lt}
use Rattle.product.proofs.Pieces.{product_lt, placed}
use Rattle.product.proofs.row.Statement.{statement}
use Rattle.product.proofs.row.Tie as tie

low-lt : (c : tie.Start) → c.args.b % 2 ^ 16 * c.args.piece < 2 ^ 32
low-lt c = product_lt 16 16 (mod-lt c.args.b (pow_pos 16)) c.ranges.piece.fits

high_lt : (c : tie.Start) → c.args.b / 2 ^ 16 * c.args.piece < 2 ^ 32
high_lt c = product_lt 16 16 (shr_lt 16 16 c.ranges.b.fits) c.ranges.piece.fits

mul_low : tie.Need-overflow_mul-low
mul_low c = omega (arith, low-lt c)

mul-high : tie.Need-overflow_mul-high
mul-high c = omega (arith, high_lt c)

cast-result : tie.Need-overflow_cast-result
cast-result c = omega (arith, low-lt c)

cast-result-2 : tie.Need-overflow_cast-result-2
cast-result-2 c = omega (arith, high_lt c)

add-result : tie.Need-overflow_add-result
add-result c = omega (arith, low-lt c, high_lt c)

returns : tie.Need-returns
returns c =
    placed c.args.b c.args.piece c.ranges.b.fits (omega (arith, c.ranges.piece.fits))
    ∙ mul_comm c.args.b c.args.piece

pub row_spec : {M : Type 1} → statement M
row_spec = tie.close (tie.spec mul_low mul-high cast-result cast-result-2 add-result returns)
