-- Putting bits into an array, from the highest of each byte on. Letters: p and q are writers, l₀ is what the array holds at first, l and l' what
-- it holds later, bs are bits.
use Rattle.std.specs.Prelude.{ℕ, ◌+◌, ◌*◌, ◌^◌, ◌≤◌, ◌<◌, ◌≡◌, Bool, List, ◌++◌, length, take, drop}
use Rattle.termfile.specs.File.{Bytes}
use Rattle.binary.specs.Bits.{low_bits, bits_in}
use Rattle.exporting.specs.declared.putting.Writer.{Writer}

-- the bits bs are put: those of the bytes that are full, and those of the byte that is begun; behind them the array is as it was
pub record Put (bs : List Bool) (l₀ : List ℕ) (p : Writer) (l : List ℕ) : Type 0 where
  pub bits_are : bits_in (take p.at l) ++ low_bits p.count p.byte ≡ bs
  pub begun : p.byte < 2 ^ p.count
  pub few : p.count < 8
  pub within : p.at ≤ length l
  pub full : Bytes (take p.at l)
  pub rest : drop p.at l ≡ drop p.at l₀
  pub same_length : length l ≡ length l₀

-- there is room for k bits more in an array of this length
pub record Room (p : Writer) (k length : ℕ) : Type 0 where
  pub few : p.count < 8
  pub fits : 8 * p.at + p.count + k ≤ 8 * length

-- the writer q is k bits behind p
pub record Moved (p : Writer) (k : ℕ) (q : Writer) : Type 0 where
  pub few : q.count < 8
  pub far : 8 * q.at + q.count ≡ 8 * p.at + p.count + k

-- the bits bs are put behind those that are there
pub record Puts (bs : List Bool) (p : Writer) (l : List ℕ) (q : Writer) (l' : List ℕ) : Type 0 where
  pub moved : Moved p (length bs) q
  pub put : (as' : List Bool) (l₀ : List ℕ) → Put as' l₀ p l → Put (as' ++ bs) l₀ q l'
