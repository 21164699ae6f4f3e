-- Bytes and bits. The low bits of a number, read as a number again, are the number modulo a power of two; the number that bits write has
-- these bits as its low ones, with zeros for those that are not there. So the bits in packed bits are these bits and zeros, and bytes whose
-- bits are these and zeros are their packing.
-- Assumes nothing.
use Prim.Native.Nat.{ℕ, zero, suc, ◌+◌, ◌-◌, ◌*◌, ◌/◌, ◌%◌, ◌^◌, ◌≤◌, ◌<◌}
use mathlib.Core.Path.{◌≡◌, refl, sym, ap, ap₂, ◌∙◌}
use mathlib.Core.Bool.{Bool, true, false, and-eq-true_iff, false≢true}
use mathlib.Core.List.{List, [], ◌∷◌, ◌++◌, append_assoc}
use native.Mathlib.Nat.{zero-add, suc-add, sub-zero, suc-sub-suc, mul_comm, mul_assoc, zero-div, mul-add-div_right, mod-eq_of_lt, pow-suc}
use native.Mathlib.Numerals.{one-add}
use native.Mathlib.Omega.{arith}
use lib.Dec.{eqb, ltb}
use lib.ListN.{length, drop, replicate, length-append, length-replicate}
use lib.Seq.{drop-nil}
use lib.Pow.{pow_pos, high, mod-pow-add}
use borrow.Author.Tests.{eqb-true, eqb-false, lt-ltb, ltb-true}
use Rattle.termfile.specs.File.{Bytes}
use Rattle.binary.specs.Bits.{low_bits, bits_in, digit, value, bytes_of, pack}
use Rattle.binary.specs.Answer.{zeros, padding}

-- Numbers and their low bits

digit-odd : (n : ℕ) → digit (eqb (n % 2) 1) ≡ n % 2
digit-odd n = go (eqb (n % 2) 1) refl
  where
    go : (q : Bool) → eqb (n % 2) 1 ≡ q → digit q ≡ n % 2
    go true e = sym (eqb-true (n % 2) 1 e)
    go false e = omega (arith, eqb-false (n % 2) 1 e)

odd-digit : (b : Bool) → eqb (digit b % 2) 1 ≡ b
odd-digit true = refl
odd-digit false = refl

value-low_bits : (n x : ℕ) (bs : List Bool) → value n (low_bits n x ++ bs) ≡ x % 2 ^ n
value-low_bits zero x bs = omega arith
value-low_bits (suc n) x bs =
    ap₂ (λ d v. d * 2 ^ n + v) (digit-odd (x / 2 ^ n)) (value-low_bits n x bs) ∙ sym (mod-pow-add x 1 n) ∙ ap (λ k. x % 2 ^ k) (one-add n)

value-less : (n : ℕ) (bs : List Bool) → value n bs < 2 ^ n
value-less zero bs = omega arith
value-less (suc n) [] = pow_pos (suc n)
value-less (suc n) (true ∷ bs) = omega (arith, value-less n bs, pow-suc 2 n)
value-less (suc n) (false ∷ bs) = omega (arith, value-less n bs, pow-suc 2 n)

-- what stands above the low bits does not change them
low_bits-above : (n h x : ℕ) → low_bits n (h * 2 ^ n + x) ≡ low_bits n x
low_bits-above zero h x = refl
low_bits-above (suc n) h x =
    let even : (h * 2 + x / 2 ^ n) % 2 ≡ x / 2 ^ n % 2 = omega arith in
    rw (pow-suc 2 n, mul_comm (2 ^ n) 2, ← mul_assoc, mul-add-div_right (pow_pos n), low_bits-above n (h * 2) x, even)

-- the first n bits, with zeros for those that are not there
abbrev filled : ℕ → List Bool → List Bool
filled zero bs = []
filled (suc n) [] = false ∷ filled n []
filled (suc n) (b ∷ bs) = b ∷ filled n bs

low_bits-zero : (n : ℕ) → low_bits n 0 ≡ filled n []
low_bits-zero zero = refl
low_bits-zero (suc n) = rw (zero-div (2 ^ n)) (ap (λ l. false ∷ l) (low_bits-zero n))

low_bits-value : (n : ℕ) (bs : List Bool) → low_bits n (value n bs) ≡ filled n bs
low_bits-value zero bs = refl
low_bits-value (suc n) [] = low_bits-zero (suc n)
low_bits-value (suc n) (b ∷ bs) =
    rw (high (digit b) n (value-less n bs), odd-digit b, low_bits-above n (digit b) (value n bs), low_bits-value n bs)

-- The bits in packed bits

filled-split : (n m : ℕ) (bs : List Bool) → filled n bs ++ filled m (drop n bs) ≡ filled (n + m) bs
filled-split zero m bs = ap (λ k. filled k bs) (sym (zero-add m))
filled-split (suc n) m [] = rw suc-add (ap (λ l. false ∷ l) (ap (λ l. filled n [] ++ filled m l) (sym (drop-nil n)) ∙ filled-split n m []))
filled-split (suc n) m (b ∷ bs) = rw suc-add (ap (λ l. b ∷ l) (filled-split n m bs))

bits_in-bytes_of : (n : ℕ) (bs : List Bool) → bits_in (bytes_of n bs) ≡ filled (8 * n) bs
bits_in-bytes_of zero bs = refl
bits_in-bytes_of (suc n) bs =
    let eight-more : 8 + 8 * n ≡ 8 * suc n = omega arith in
    ap₂ ◌++◌ (low_bits-value 8 bs) (bits_in-bytes_of n (drop 8 bs)) ∙ filled-split 8 (8 * n) bs ∙ ap (λ k. filled k bs) eight-more

filled-spare : (n : ℕ) (bs : List Bool) → length bs ≤ n → filled n bs ≡ bs ++ replicate (n - length bs) false
filled-spare zero [] h = refl
filled-spare zero (b ∷ bs) h = absurd (omega arith)
filled-spare (suc n) [] h = rw (sub-zero (suc n)) (ap (λ l. false ∷ l) (rw (sub-zero n) at (filled-spare n [] (omega arith))))
filled-spare (suc n) (b ∷ bs) h = ap (λ l. b ∷ l) (rw suc-sub-suc (filled-spare n bs (omega arith)))

-- the zeros behind the bits in their last byte
abbrev pub spare : List Bool → List Bool
spare bs = replicate (8 * ((length bs + 7) / 8) - length bs) false

pub pack-bits : (bs : List Bool) → bits_in (pack bs) ≡ bs ++ spare bs
pack-bits bs = bits_in-bytes_of ((length bs + 7) / 8) bs ∙ filled-spare (8 * ((length bs + 7) / 8)) bs (omega arith)

zeros-replicate : (n : ℕ) → zeros (replicate n false) ≡ true
zeros-replicate zero = refl
zeros-replicate (suc n) = zeros-replicate n

pub padding-replicate : (n : ℕ) → n < 8 → padding (replicate n false) ≡ true
padding-replicate n h = rw (zeros-replicate, length-replicate, lt-ltb _ 8 h)

pub spare-padding : (bs : List Bool) → padding (spare bs) ≡ true
spare-padding bs = padding-replicate (8 * ((length bs + 7) / 8) - length bs) (omega arith)

-- Bits of bytes

pub length-low_bits : (n x : ℕ) → length (low_bits n x) ≡ n
length-low_bits zero x = refl
length-low_bits (suc n) x = ap suc (length-low_bits n x)

pub bits_in-append : (s r : List ℕ) → bits_in (s ++ r) ≡ bits_in s ++ bits_in r
bits_in-append [] r = refl
bits_in-append (x ∷ s) r = ap (λ l. low_bits 8 x ++ l) (bits_in-append s r) ∙ sym (append_assoc (low_bits 8 x) (bits_in s) (bits_in r))

-- The bytes of packed bits

length-bytes_of : (n : ℕ) (bs : List Bool) → length (bytes_of n bs) ≡ n
length-bytes_of zero bs = refl
length-bytes_of (suc n) bs = ap suc (length-bytes_of n (drop 8 bs))

pub length-pack : (bs : List Bool) → length (pack bs) ≡ (length bs + 7) / 8
length-pack bs = length-bytes_of ((length bs + 7) / 8) bs

bytes-bytes_of : (n : ℕ) (bs : List Bool) → Bytes (bytes_of n bs)
bytes-bytes_of zero bs i = omega arith
bytes-bytes_of (suc n) bs zero = value-less 8 bs
bytes-bytes_of (suc n) bs (suc i) = bytes-bytes_of n (drop 8 bs) i

pub bytes-pack : (bs : List Bool) → Bytes (pack bs)
bytes-pack bs = bytes-bytes_of ((length bs + 7) / 8) bs

-- Bytes by their bits

pub length-bits_in : (s : List ℕ) → length (bits_in s) ≡ 8 * length s
length-bits_in [] = refl
length-bits_in (x ∷ s) = omega (arith, length-bits_in s)

bytes_of-bits_in : (s : List ℕ) → Bytes s → bytes_of (length s) (bits_in s) ≡ s
bytes_of-bits_in [] b = refl
bytes_of-bits_in (x ∷ s) b = ap₂ ◌∷◌ (value-low_bits 8 x (bits_in s) ∙ mod-eq_of_lt (b 0)) (bytes_of-bits_in s (λ i. b (suc i)))

pub bits_in-injective : (s r : List ℕ) → Bytes s → Bytes r → bits_in s ≡ bits_in r → s ≡ r
bits_in-injective s r b c e =
    let same : length s ≡ length r = omega (arith, length-bits_in s, length-bits_in r, ap length e) in
    sym (bytes_of-bits_in s b) ∙ ap₂ bytes_of same e ∙ bytes_of-bits_in r c

zeros-are : (bs : List Bool) → zeros bs ≡ true → bs ≡ replicate (length bs) false
zeros-are [] z = refl
zeros-are (true ∷ bs) z = absurd (false≢true z)
zeros-are (false ∷ bs) z = ap (λ l. false ∷ l) (zeros-are bs z)

-- bytes whose bits are these, with fewer than 8 zeros behind them, are their packing
pub pack-unique : (s : List ℕ) (bs rest : List Bool) → Bytes s → bits_in s ≡ bs ++ rest → padding rest ≡ true → pack bs ≡ s
pack-unique s bs rest b e p =
    let h = (and-eq-true_iff (ltb (length rest) 8) (zeros rest)).0 p in
    let few : length rest < 8 = ltb-true (length rest) 8 h.0 in
    let long : length bs + length rest ≡ 8 * length s = sym (length-append bs rest) ∙ ap length (sym e) ∙ length-bits_in s in
    let left : length rest ≡ 8 * ((length bs + 7) / 8) - length bs = omega arith in
    let is-spare : rest ≡ spare bs = zeros-are rest h.1 ∙ ap (λ k. replicate k false) left in
    bits_in-injective (pack bs) s (bytes-pack bs) b (pack-bits bs ∙ ap (λ l. bs ++ l) (sym is-spare) ∙ sym e)
