-- Refusal 16 at its edges. A node beyond the node limit is refused at its last bit, whatever stands behind it, and so is a variable whose
-- index is too large for a free name; where the bits end before that, they end inside a term.
-- Assumes nothing.
use Prim.Native.Nat.{ℕ, zero, suc, ◌+◌, ◌≤◌}
use mathlib.Core.Path.{◌≡◌, refl, ◌∙◌}
use mathlib.Core.Bool.{Bool, true, false}
use mathlib.Core.List.{List, [], ◌∷◌, ◌++◌}
use lib.ListN.{replicate}
use borrow.Author.Tests.{le-ltb}
use Rattle.termfile.specs.File.{max_nodes}
use Rattle.binary.specs.Bits.{index}
use Rattle.binary.specs.Reading.{Place, depth, nothing, unread, reading}
use Rattle.binary.proofs.Ones.{ones-end, node_over, index-over}
use Rattle.binary.proofs.ReadBack.{reading-index}

module _ (f : ℕ) (p : Place) (n : ℕ) where
  -- where the bits end, before a node's last bit
  pub zero-ends : reading f nothing p n (false ∷ []) ≡ unread 14
  zero-ends = refl

  pub variable-ends : (k : ℕ) → reading f nothing p n (replicate k true) ≡ unread 14
  variable-ends zero = refl
  variable-ends (suc k) = ones-end f p n k 0

  -- at a node's last bit
  pub abstraction-over : (bs : List Bool) → max_nodes ≤ n → reading f nothing p n (false ∷ false ∷ bs) ≡ unread 16
  abstraction-over bs h = rw (le-ltb n max_nodes h)

  pub application-over : (bs : List Bool) → max_nodes ≤ n → reading f nothing p n (false ∷ true ∷ bs) ≡ unread 16
  application-over bs h = rw (le-ltb n max_nodes h)

  pub variable-over : (k : ℕ) (bs : List Bool) → max_nodes ≤ n → reading f nothing p n (index k ++ bs) ≡ unread 16
  variable-over k bs h = reading-index f p n bs k ∙ node_over f p n k bs h

  pub name-over : (k : ℕ) (bs : List Bool) → depth p + f ≤ k → reading f nothing p n (index k ++ bs) ≡ unread 16
  name-over k bs h = reading-index f p n bs k ∙ index-over f p n k bs h
