-- Preludes worked out from the definitions, as rows of one table with one claim: the refusals at their edges and in their order.
-- Assumes nothing.
use Prim.Native.Nat.{ℕ}
use mathlib.Core.Path.{◌≡◌, refl}
use mathlib.Core.List.{List, [], ◌∷◌, ◌++◌}
use mathlib.Core.Option.{Option, none, some}
use Rattle.termfile.specs.File.{refusal}
use Rattle.prelude.specs.Prelude.{prelude_refusal}

-- the term's count of free names, the bytes of a prelude, and the number that it is refused with, if it is
pub record Row : Type 0 where
  pub free : ℕ
  pub prelude : List ℕ
  pub refusal : Option ℕ

abbrev pub row : ℕ → List ℕ → Option ℕ → Row
row f p o = record { free = f; prelude = p; refusal = o }

-- λx. x at place 0 and at place 1; λx. y, where y is the definition at place 0, at place 1; λx. y at place 0, where y is its own name
abbrev identity : List ℕ
identity = 0 ∷ 0 ∷ 2 ∷ 0 ∷ 1 ∷ 0 ∷ 0 ∷ 0 ∷ 0 ∷ 0 ∷ []

abbrev identity-later : List ℕ
identity-later = 1 ∷ 0 ∷ 2 ∷ 0 ∷ 1 ∷ 0 ∷ 1 ∷ 0 ∷ 1 ∷ 0 ∷ []

abbrev constant-later : List ℕ
constant-later = 1 ∷ 0 ∷ 2 ∷ 0 ∷ 1 ∷ 0 ∷ 1 ∷ 0 ∷ 0 ∷ 0 ∷ []

-- a variable, at place 1; a file with no node; one with n = 65,535 and no node's bytes
abbrev variable-later : List ℕ
variable-later = 1 ∷ 0 ∷ 1 ∷ 0 ∷ 0 ∷ 0 ∷ 0 ∷ []

abbrev no_node : List ℕ
no_node = 0 ∷ 0 ∷ 0 ∷ 0 ∷ []

abbrev many-nodes : List ℕ
many-nodes = 0 ∷ 0 ∷ 255 ∷ 255 ∷ []

abbrev pub rows : List Row
rows =
    -- a count of which bytes are missing; no definition; a byte left over
    row 0 [] (some 17)
    ∷ row 0 (0 ∷ []) (some 17)
    ∷ row 0 (0 ∷ 0 ∷ []) none
    ∷ row 0 (0 ∷ 0 ∷ 0 ∷ []) (some 17)
    -- one definition, and two; a term with fewer free names
    ∷ row 1 (1 ∷ 0 ∷ identity) none
    ∷ row 0 (1 ∷ 0 ∷ identity) (some 17)
    ∷ row 2 (2 ∷ 0 ∷ identity ++ identity-later) none
    ∷ row 2 (2 ∷ 0 ∷ identity ++ constant-later) none
    ∷ row 1 (2 ∷ 0 ∷ identity ++ constant-later) (some 17)
    -- a definition that is missing, one that is cut short, and a byte behind the last
    ∷ row 2 (2 ∷ 0 ∷ identity) (some 17)
    ∷ row 2 (2 ∷ 0 ∷ identity ++ (1 ∷ 0 ∷ 2 ∷ [])) (some 17)
    ∷ row 1 (1 ∷ 0 ∷ identity ++ (0 ∷ [])) (some 17)
    -- whatever n says: none takes 4 bytes, and is then refused; 65,535 has too few bytes
    ∷ row 1 (1 ∷ 0 ∷ no_node) (some 2)
    ∷ row 1 (1 ∷ 0 ∷ many-nodes) (some 17)
    -- 17 of a later definition before 2 of an earlier one; 2 of an earlier one before 5 of a later one
    ∷ row 2 (2 ∷ 0 ∷ no_node ++ (1 ∷ 0 ∷ 2 ∷ [])) (some 17)
    ∷ row 2 (2 ∷ 0 ∷ no_node ++ (1 ∷ 0 ∷ 1 ∷ 0 ∷ 2 ∷ 1 ∷ 0 ∷ [])) (some 2)
    -- 17 before 18: more definitions than free names, of which one is a variable
    ∷ row 1 (2 ∷ 0 ∷ identity ++ variable-later) (some 17)
    -- a definition that is not an abstraction, and one with the f field of another place, where it may use its own name
    ∷ row 2 (2 ∷ 0 ∷ identity ++ variable-later) (some 18)
    ∷ row 1 (1 ∷ 0 ∷ constant-later) (some 19)
    ∷ row 2 (2 ∷ 0 ∷ identity ++ identity) (some 19)
    -- 18 of a later definition before 19 of an earlier one, and 7 of a later one before 18, and before 19, of an earlier one
    ∷ row 2 (2 ∷ 0 ∷ identity-later ++ variable-later) (some 18)
    ∷ row 2 (2 ∷ 0 ∷ variable-later ++ (0 ∷ 0 ∷ 1 ∷ 0 ∷ 0 ∷ 0 ∷ 0 ∷ [])) (some 7)
    ∷ row 2 (2 ∷ 0 ∷ identity-later ++ (0 ∷ 0 ∷ 1 ∷ 0 ∷ 0 ∷ 0 ∷ 0 ∷ [])) (some 7)
    ∷ []

abbrev pub Right : List Row → Type 0
Right [] = Unit {0}
Right (r ∷ rs) = (prelude_refusal r.free r.prelude ≡ r.refusal) × Right rs

pub rows_right : Right rows
unfolding prelude_refusal refusal
rows_right = (refl, (refl, (refl, (refl, (refl, (refl, (refl, (refl, (refl, (refl, (refl, (refl, (refl, (refl, (refl, (refl, (refl, (refl, (refl, (refl, (refl, (refl, (refl, tt)))))))))))))))))))))))
