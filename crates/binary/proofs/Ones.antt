-- Bits that repeat, and the ones of an index: reading counts them up to a zero, where it refuses an index or a node that is out of range; without a zero the bits
-- end inside a term.
-- Assumes nothing.
use Prim.Native.Nat.{ℕ, zero, suc, ◌+◌, ◌≤◌}
use mathlib.Core.Path.{◌≡◌, refl, ap, ◌∙◌}
use mathlib.Core.Bool.{Bool, true, false, and-false}
use mathlib.Core.List.{List, ◌∷◌, ◌++◌}
use native.Mathlib.Omega.{arith}
use lib.ListN.{length, replicate}
use borrow.Author.Tests.{le-ltb}
use Rattle.termfile.specs.File.{max_nodes}
use Rattle.binary.specs.Bits.{index}
use Rattle.binary.specs.Reading.{Place, depth, ones, unread, reading}

-- one more of the same bit, at either end
pub replicate-snoc : (b : Bool) (n : ℕ) (bs : List Bool) → replicate n b ++ (b ∷ bs) ≡ b ∷ (replicate n b ++ bs)
replicate-snoc b zero bs = refl
replicate-snoc b (suc n) bs = ap (λ l. b ∷ l) (replicate-snoc b n bs)

pub index-append : (k : ℕ) (bs : List Bool) → index k ++ bs ≡ true ∷ (replicate k true ++ (false ∷ bs))
index-append zero bs = refl
index-append (suc k) bs = ap (λ l. true ∷ l) (index-append k bs)

pub length-index : (k : ℕ) → length (index k) ≡ k + 2
length-index zero = refl
length-index (suc k) = omega (arith, length-index k)

module _ (f : ℕ) (p : Place) (n : ℕ) where
  -- ones up to the end
  pub ones-end : (k j : ℕ) → reading f (ones j) p n (replicate k true) ≡ unread 14
  ones-end zero j = refl
  ones-end (suc k) j = ones-end k (suc j)

  ones-counted : (k j : ℕ) (bs : List Bool) → reading f (ones j) p n (replicate k true ++ bs) ≡ reading f (ones (k + j)) p n bs
  ones-counted zero j bs = ap (λ i. reading f (ones i) p n bs) (omega arith)
  ones-counted (suc k) j bs = ones-counted k (suc j) bs ∙ ap (λ i. reading f (ones i) p n bs) (omega arith)

  -- ones behind the first
  pub ones-read : (k : ℕ) (bs : List Bool) → reading f (ones 0) p n (replicate k true ++ bs) ≡ reading f (ones k) p n bs
  ones-read k bs = ones-counted k 0 bs ∙ ap (λ i. reading f (ones i) p n bs) (omega arith)

  -- the zero of a variable beyond the node limit, and of one whose index is too large
  pub node_over : (k : ℕ) (bs : List Bool) → max_nodes ≤ n → reading f (ones k) p n (false ∷ bs) ≡ unread 16
  node_over k bs h = rw (le-ltb n max_nodes h)

  pub index-over : (k : ℕ) (bs : List Bool) → depth p + f ≤ k → reading f (ones k) p n (false ∷ bs) ≡ unread 16
  index-over k bs h = rw (le-ltb k (depth p + f) h, and-false)
