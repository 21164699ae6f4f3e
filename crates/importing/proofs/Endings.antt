-- How many bits are ahead, and whether they are padding.
-- Assumes nothing.
use Prim.Native.Nat.{ℕ, ◌+◌, ◌-◌, ◌*◌, ◌≤◌, ◌<◌}
use mathlib.Core.Path.{◌≡◌, sym, ap}
use mathlib.Core.Bool.{◌&&◌, false}
use mathlib.Core.List.{List}
use native.Mathlib.Omega.{arith}
use lib.ListN.{length, drop, length-append, length-drop}
use borrow.Author.Tests.{lt-ltb, le-ltb}
use Rattle.binary.specs.Bits.{low_bits, bits_in}
use Rattle.binary.specs.Answer.{zeros, padding}
use Rattle.binary.proofs.Packing.{length-low_bits, length-bits_in}
use Rattle.importing.specs.Ahead.{ahead}
use Rattle.importing.specs.declared.cursor.Cursor.{Cursor}

module _ (s : List ℕ) (c : Cursor) where
  length-ahead : length (ahead s c) ≡ c.left + 8 * (length s - c.at)
  length-ahead =
      omega (
        arith,
        length-append (low_bits c.left c.byte) (bits_in (drop c.at s)),
        length-low_bits c.left c.byte,
        length-bits_in (drop c.at s),
        length-drop c.at s,
      )

  -- a byte that is not begun is too much
  pub spare-byte : c.at < length s → false ≡ padding (ahead s c)
  spare-byte h = ap (λ q. q && zeros (ahead s c)) (sym (le-ltb (length (ahead s c)) 8 (omega (arith, length-ahead))))

  -- else the zeros alone decide
  pub last_byte : length s ≤ c.at → padding (ahead s c) ≡ zeros (ahead s c)
  last_byte h = ap (λ q. q && zeros (ahead s c)) (lt-ltb (length (ahead s c)) 8 (omega (arith, length-ahead, c.begun)))
