-- The product by a number of 32 bits, from the products by its two pieces of 16 bits.
-- Assumes nothing.
use Prim.Native.Nat.{ℕ, ◌+◌, ◌*◌, ◌/◌, ◌%◌, ◌^◌, ◌<◌, ◌≤◌}
use mathlib.Core.Path.{◌≡◌, sym, ap, ◌∙◌}
use native.Mathlib.Nat.{le_refl, le_of_lt, lt_of_le_of_lt, add_comm, add-mul, mul_right_comm, mul-le-mul, mul-le-mul_left}
use lib.Pow.{le_ones, split, shl_lt, shl_exact, shr_lt}

-- a number of s bits times one of t bits has at most s + t bits
pub product_lt : {x y : ℕ} (s t : ℕ) → x < 2 ^ s → y < 2 ^ t → x * y < 2 ^ (s + t)
product_lt {x} s t hx hy = lt_of_le_of_lt (mul-le-mul_left x (le_of_lt hy)) (shl_lt s t hx)

-- the most that a piece and a number of 32 bits give
pub row-le : {x y : ℕ} → x < 2 ^ 16 → y < 2 ^ 32 → x * y ≤ 65535 * 4294967295
row-le hx hy = mul-le-mul (le_ones 16 hx) (le_ones 32 hy)

-- the products by the two pieces of x, the upper one moved up by 16 bits, add up to the product by x
pieces : (x y : ℕ) → x % 2 ^ 16 * y + x / 2 ^ 16 * y * 2 ^ 16 ≡ x * y
pieces x y =
    add_comm (x % 2 ^ 16 * y) (x / 2 ^ 16 * y * 2 ^ 16)
    ∙ ap (λ n. n + x % 2 ^ 16 * y) (mul_right_comm (x / 2 ^ 16) y (2 ^ 16))
    ∙ sym (add-mul (x / 2 ^ 16 * 2 ^ 16) (x % 2 ^ 16) y)
    ∙ ap (λ n. n * y) (split x 16)

-- the same with the cut to 64 bits that a shift makes: nothing is cut off
pub placed : (x y : ℕ) → x < 2 ^ 32 → y < 2 ^ 32 → x % 2 ^ 16 * y + x / 2 ^ 16 * y * 2 ^ 16 % 2 ^ 64 ≡ x * y
placed x y hx hy =
    ap (λ n. x % 2 ^ 16 * y + n) (shl_exact 48 16 64 (product_lt 16 32 (shr_lt 16 16 hx) hy) (le_refl 64)) ∙ pieces x y
