-- Numbers in decimal: the equations that a reader expects of `decimal`, that reading its digits gives the number back, and how many digits
-- there are. The fuel in the definition does not matter as long as it is at least the number, so each fact goes by induction on it.
-- Assumes nothing.
use Prim.Native.Nat.{ℕ, zero, suc, ◌+◌, ◌-◌, ◌*◌, ◌/◌, ◌%◌, ◌^◌, ◌≤◌, ◌<◌}
use mathlib.Core.Path.{◌≡◌, refl, ap, ◌∙◌, subst}
use mathlib.Core.Bool.{Bool, true, false, cond}
use mathlib.Core.List.{List, [], ◌∷◌, ◌++◌}
use native.Mathlib.Omega.{arith}
use native.Mathlib.Nat.{div-lt_iff_lt-mul, one-le-pow, pow-suc}
use lib.Dec.{ltb, lit<}
use lib.ListN.{length, length-append}
use borrow.Author.Tests.{lt-ltb, le-ltb, ltb-true, ltb-false}
use Rattle.rendering.specs.Decimal.{digit, digits_within, decimal, value_after, value}

-- one number more than is needed changes nothing
within_same : (j k n : ℕ) → n ≤ j → n ≤ k → digits_within j n ≡ digits_within k n
within_same zero zero n hj hk = refl
within_same zero (suc k) n hj hk = let h : ltb n 10 ≡ true = lt-ltb n 10 (omega arith) in rw h
within_same (suc j) zero n hj hk = let h : ltb n 10 ≡ true = lt-ltb n 10 (omega arith) in rw h
within_same (suc j) (suc k) n hj hk =
    ap (λ ds. cond (ltb n 10) (digit n ∷ []) (ds ++ (digit (n % 10) ∷ []))) (within_same j k (n / 10) (omega arith) (omega arith))

-- a number below 10 is its digit
pub decimal-below : (n : ℕ) → n < 10 → decimal n ≡ digit n ∷ []
unfolding decimal
decimal-below zero l = refl
decimal-below (suc n) l = let h : ltb (suc n) 10 ≡ true = lt-ltb (suc n) 10 l in rw h

-- any other is n / 10 in decimal, and then the digit n % 10
pub decimal-above : (n : ℕ) → 10 ≤ n → decimal n ≡ decimal (n / 10) ++ (digit (n % 10) ∷ [])
unfolding decimal
decimal-above zero l = absurd (omega arith)
decimal-above (suc n) l =
    let h : ltb (suc n) 10 ≡ false = le-ltb (suc n) 10 l in
    rw (h, within_same n (suc n / 10) (suc n / 10) (omega arith) (omega arith))

-- one digit more, at the end
value-snoc : (m : ℕ) (ds : List ℕ) (d : ℕ) → value_after m (ds ++ (d ∷ [])) ≡ 10 * value_after m ds + (d - 48)
value-snoc m [] d = refl
value-snoc m (e ∷ ds) d = value-snoc (10 * m + (e - 48)) ds d

-- what holds below 10, and of n where it holds of n / 10, holds of every number
by_digits : (P : ℕ → Type 0) → ((n : ℕ) → n < 10 → P n) → ((n : ℕ) → 10 ≤ n → P (n / 10) → P n) → (n : ℕ) → P n
by_digits P below above n = upto n n (omega arith)
  where
    choose : (k n : ℕ) → n ≤ suc k → ((m : ℕ) → m ≤ k → P m) → (b : Bool) → ltb n 10 ≡ b → P n
    choose k n h known true e = below n (omega (arith, ltb-true n 10 e))
    choose k n h known false e = let l : 10 ≤ n = omega (arith, ltb-false n 10 e) in above n l (known (n / 10) (omega arith))

    upto : (k n : ℕ) → n ≤ k → P n
    upto zero n h = below n (omega arith)
    upto (suc k) n h = choose k n h (upto k) (ltb n 10) refl

-- reading the digits of a number gives the number back
pub value-decimal : (n : ℕ) → value (decimal n) ≡ n
value-decimal =
    by_digits (λ n. value (decimal n) ≡ n)
    (λ n l. rw (decimal-below n l) (omega arith))
    (λ n l known. rw (decimal-above n l) (rw (value-snoc 0 (decimal (n / 10)) (digit (n % 10)), known) (omega arith)))

pub decimal-length-below : (n : ℕ) → n < 10 → length (decimal n) ≡ 1
decimal-length-below n l = ap length (decimal-below n l)

pub decimal-length-above : (n : ℕ) → 10 ≤ n → length (decimal n) ≡ length (decimal (n / 10)) + 1
decimal-length-above n l = ap length (decimal-above n l) ∙ length-append (decimal (n / 10)) (digit (n % 10) ∷ [])

-- a number has a digit at least, and one alone below 10
pub decimal-nonempty : (n : ℕ) → 1 ≤ length (decimal n)
decimal-nonempty =
    by_digits (λ n. 1 ≤ length (decimal n))
    (λ n l. omega (arith, decimal-length-below n l))
    (λ n l known. omega (arith, decimal-length-above n l))

pub decimal-many : (n : ℕ) → 1 < length (decimal n) → 10 ≤ n
decimal-many n l = many (ltb n 10) refl
  where
    many : (b : Bool) → ltb n 10 ≡ b → 10 ≤ n
    many true e = absurd (omega (arith, decimal-length-below n (omega (arith, ltb-true n 10 e))))
    many false e = omega (arith, ltb-false n 10 e)

pub decimal-one : (n : ℕ) → length (decimal n) ≤ 1 → n < 10
decimal-one n l = one (ltb n 10) refl
  where
    one : (b : Bool) → ltb n 10 ≡ b → n < 10
    one true e = omega (arith, ltb-true n 10 e)
    one false e =
        let more : 10 ≤ n = omega (arith, ltb-false n 10 e) in
        absurd (omega (arith, decimal-length-above n more, decimal-nonempty (n / 10)))

-- a number has one digit more than the power of 10 that it reaches
pub decimal-length-power : (k n : ℕ) → 10 ^ k ≤ n → n < 10 * 10 ^ k → length (decimal n) ≡ k + 1
decimal-length-power zero n low high = omega (arith, decimal-length-below n (omega arith))
decimal-length-power (suc k) n low high =
    let power : 10 ^ suc k ≡ 10 ^ k * 10 = pow-suc 10 k in
    let some : 1 ≤ 10 ^ k = one-le-pow k 10 (lit< tt) in
    omega (
      arith,
      power,
      decimal-length-above n (omega (arith, power, some)),
      decimal-length-power k (n / 10) (omega (arith, power)) (omega (arith, power)),
    )

-- a number below 10 ^ (k + 1) has at most k + 1 digits
pub decimal-few : (k n : ℕ) → n < 10 ^ suc k → length (decimal n) ≤ suc k
decimal-few zero n l = omega (arith, decimal-length-below n l)
decimal-few (suc k) n l =
    few (decimal-few k (n / 10) ((div-lt_iff_lt-mul (lit< tt)).1 (subst (λ m. n < m) (pow-suc 10 (suc k)) l))) (ltb n 10) refl
  where
    few : length (decimal (n / 10)) ≤ suc k → (b : Bool) → ltb n 10 ≡ b → length (decimal n) ≤ suc (suc k)
    few h true e = omega (arith, decimal-length-below n (omega (arith, ltb-true n 10 e)))
    few h false e = omega (arith, decimal-length-above n (omega (arith, ltb-false n 10 e)))
