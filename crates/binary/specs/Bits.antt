-- Binary lambda calculus: the bits of bytes, the bits of a term, and bits packed into bytes.
-- Letters: b is a bit, true for 1 and false for 0, bs are bits, s bytes, k is an index, m the number of abstractions around, n a count.
use Rattle.std.specs.Prelude.{ℕ, zero, suc, ◌+◌, ◌*◌, ◌/◌, ◌%◌, ◌^◌, Bool, true, false, List, [], ◌∷◌, ◌++◌, eqb, length, drop}
use Rattle.fireball.specs.Term.{Term, free, bound, lam, app}

-- the n lowest bits of a number, the highest of them first
abbrev pub low_bits : ℕ → ℕ → List Bool
low_bits zero x = []
low_bits (suc n) x = eqb (x / 2 ^ n % 2) 1 ∷ low_bits n x

-- 02, request 1: "Bits fill bytes from the highest"
abbrev pub bits_in : List ℕ → List Bool
bits_in [] = []
bits_in (x ∷ s) = low_bits 8 x ++ bits_in s

-- "k + 1 ones followed by a zero is the variable bound k abstractions out"
abbrev pub index : ℕ → List Bool
index zero = true ∷ false ∷ []
index (suc k) = true ∷ index k

-- "00 and a body is an abstraction, 01 and two terms an application", and a variable is its index. "With m abstractions around it and k at
-- least m it is free name k - m": the free name x has the index m + x
abbrev pub bits : ℕ → Term → List Bool
bits m (free x) = index (m + x)
bits m (bound k) = index k
bits m (lam t) = false ∷ false ∷ bits (suc m) t
bits m (app t u) = false ∷ true ∷ (bits m t ++ bits m u)

abbrev pub digit : Bool → ℕ
digit true = 1
digit false = 0

-- the number that the first n bits write, the highest first; a bit that is not there is 0
abbrev pub value : ℕ → List Bool → ℕ
value zero bs = 0
value (suc n) [] = 0
value (suc n) (b ∷ bs) = digit b * 2 ^ n + value n bs

-- n bytes of bits
abbrev pub bytes_of : ℕ → List Bool → List ℕ
bytes_of zero bs = []
bytes_of (suc n) bs = value 8 bs ∷ bytes_of n (drop 8 bs)

-- as many bytes as the bits take; "the last byte is padded with zeros"
abbrev pub pack : List Bool → List ℕ
pack bs = bytes_of ((length bs + 7) / 8) bs
