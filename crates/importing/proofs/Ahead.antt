-- Cursors behind each other, and ones behind ones.
-- Assumes nothing.
use Prim.Native.Nat.{ℕ, suc, ◌+◌}
use mathlib.Core.Path.{◌≡◌, ap, ◌∙◌}
use mathlib.Core.Bool.{Bool, true}
use mathlib.Core.List.{List, ◌∷◌, ◌++◌}
use native.Mathlib.Omega.{arith}
use lib.ListN.{replicate}
use Rattle.binary.proofs.Ones.{replicate-snoc}
use Rattle.importing.specs.Ahead.{Behind}
use Rattle.importing.specs.declared.cursor.Cursor.{Cursor}

-- Cursors behind each other

pub behind-then : {a c d : Cursor} {j k : ℕ} (m : ℕ) → m ≡ j + k → Behind a j c → Behind c k d → Behind a m d
behind-then m e p q =
    record { forth = omega (arith, p.forth, q.forth); far = omega (arith, p.far, q.far) }

-- Ones

pub ones-more : {bs cs ds : List Bool} (j : ℕ) → bs ≡ replicate j true ++ cs → cs ≡ true ∷ ds → bs ≡ replicate (suc j) true ++ ds
ones-more {ds = ds} j p q = p ∙ ap (λ l. replicate j true ++ l) q ∙ replicate-snoc true j ds
