-- Stores to an array that keeps a stack.
-- Assumes nothing.
use Prim.Native.Nat.{ℕ, zero, suc, ◌-◌, ◌≤◌, ◌<◌}
use mathlib.Core.Path.{◌≡◌, sym, ap, ◌∙◌}
use mathlib.Core.List.{List, [], ◌∷◌}
use native.Mathlib.Omega.{arith}
use lib.ListN.{length, get_or, set}
use lib.Seq.{get_or-set_same, get_or-set_other}
use Rattle.binary.specs.Stacks.{Stacked}

-- a store past a stack leaves it
pub stacked-set : (xs ys : List ℕ) (i v : ℕ) → length ys ≤ i → Stacked xs ys → Stacked (set xs i v) ys
stacked-set xs [] i v h s = tt
stacked-set xs (y ∷ ys) i v h s =
    (get_or-set_other xs i (length ys) v 0 (λ e. omega arith) ∙ s.0, stacked-set xs ys i v (omega arith) s.1)

-- a store on top of it is one more element
pub stacked-push : (xs ys : List ℕ) (i v y : ℕ) → i ≡ length ys → i < length xs → v ≡ y → Stacked xs ys → Stacked (set xs i v) (y ∷ ys)
stacked-push xs ys i v y e h w s =
    (ap (λ k. get_or (set xs i v) k 0) (sym e) ∙ get_or-set_same xs i v 0 h ∙ w, stacked-set xs ys i v (omega arith) s)

-- the element that is k below the top
pub stacked-at : (xs ys : List ℕ) (k : ℕ) → k < length ys → Stacked xs ys → get_or xs (length ys - 1 - k) 0 ≡ get_or ys k 0
stacked-at xs [] k h s = absurd (omega arith)
stacked-at xs (y ∷ ys) zero h s = ap (λ i. get_or xs i 0) (omega arith) ∙ s.0
stacked-at xs (y ∷ ys) (suc k) h s = ap (λ i. get_or xs i 0) (omega arith) ∙ stacked-at xs ys k (omega arith) s.1
