-- What private functions are held to, beyond the paper's definitions: an array that keeps a stack.
use Rattle.std.specs.Prelude.{ℕ, ◌≡◌, List, [], ◌∷◌, length, get_or}

-- an array begins with the elements of a list, the last first
abbrev pub Stacked : List ℕ → List ℕ → Type 0
Stacked xs [] = Unit {0}
Stacked xs (y ∷ ys) = (get_or xs (length ys) 0 ≡ y) × Stacked xs ys
