-- Numbers in decimal, as bytes of ASCII, the most significant digit first.
use Rattle.std.specs.Prelude.{ℕ, zero, suc, ◌+◌, ◌-◌, ◌*◌, ◌/◌, ◌%◌, cond, List, [], ◌∷◌, ◌++◌, ltb}

-- the byte of a digit below 10: `0` is 48
abbrev pub digit : ℕ → ℕ
digit d = 48 + d

-- the digits of n, of which there are at most k + 1
abbrev pub digits_within : ℕ → ℕ → List ℕ
digits_within zero n = digit n ∷ []
digits_within (suc k) n = cond (ltb n 10) (digit n ∷ []) (digits_within k (n / 10) ++ (digit (n % 10) ∷ []))

-- 01, The term file: "with the argument in decimal". n + 1 digits are enough for n. So a number below 10 is its digit, and any other is
-- n / 10 in decimal and then the digit n % 10: `decimal-below` and `decimal-above` in proofs/Decimal.
unfoldable pub decimal : ℕ → List ℕ
decimal n = digits_within n n

-- the number that digits stand for, behind those that stand for n
abbrev pub value_after : ℕ → List ℕ → ℕ
value_after n [] = n
value_after n (d ∷ ds) = value_after (10 * n + (d - 48)) ds

-- the number that digits stand for: the inverse of `decimal`, by `value-decimal` in proofs/Decimal
abbrev pub value : List ℕ → ℕ
value ds = value_after 0 ds
