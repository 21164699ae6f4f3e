-- The bits of a term, node by node. Letters: ts are tags, ks indices, s is a file's bytes, f its count of free names, n that of
-- nodes, c a code.
use Rattle.std.specs.Prelude.{ℕ, zero, suc, ◌≤◌, ◌≡◌, Bool, true, false, List, [], ◌∷◌, ◌++◌}
use Rattle.termfile.specs.Code.{Code, numbered, scoped}
use Rattle.termfile.specs.Nodes.{write}
use Rattle.termfile.specs.File.{max_free, nodes}
use Rattle.termfile.specs.Passes.{Framed}
use Rattle.binary.specs.Bits.{index}

-- the bits of a node alone: a variable with the index k, an abstraction, or an application
abbrev pub token : ℕ → ℕ → List Bool
token zero k = index k
token (suc zero) k = false ∷ false ∷ []
token (suc (suc t)) k = false ∷ true ∷ []

-- those of nodes in prefix order
abbrev pub tokens : List ℕ → List ℕ → List Bool
tokens [] ks = []
tokens (t ∷ ts) [] = []
tokens (t ∷ ts) (k ∷ ks) = token t k ++ tokens ts ks

-- s is a file with f free names and n nodes, and these stand for the code c
pub record Coded (s : List ℕ) (n f : ℕ) (c : Code) : Type 0 where
  pub framed : Framed s n
  pub few_free : f ≤ max_free
  pub nodes_are : nodes s ≡ write c
  pub in_order : numbered f c ≡ true
  pub in_scope : scoped f [] c ≡ true
