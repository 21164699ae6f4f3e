-- Nodes in prefix order, and the code that a whole node list stands for. Letters: ns is a list of nodes, cs of codes.
use Rattle.std.specs.Prelude.{ℕ, zero, suc, cond, List, [], ◌∷◌, ◌++◌, eqb}
use Rattle.std.proofs.Math.Option.{Option, none, some}
use Rattle.termfile.specs.Code.{Code, var, abs, app, size}

pub record Node : Type 0 where
  pub tag : ℕ
  pub argument : ℕ

-- 01, The term file: "Nodes stand in prefix order", with tag 0, 1 or 2 and the argument that the tag's line says
abbrev pub write : Code → List Node
write (var x) = record { tag = 0; argument = x } ∷ []
write (abs x c) = record { tag = 1; argument = x } ∷ write c
write (app c d) = record { tag = 2; argument = size c } ∷ (write c ++ write d)

-- one node read, right to left, before the codes cs that stand behind it: a variable is a code of its own; an abstraction takes the
-- first code as its body; an application takes the first two, and its argument has to be the first's size
abbrev pub read_node : ℕ → ℕ → List Code → Option (List Code)
read_node zero x cs = some (var x ∷ cs)
read_node (suc zero) x [] = none
read_node (suc zero) x (c ∷ cs) = some (abs x c ∷ cs)
read_node (suc (suc zero)) m [] = none
read_node (suc (suc zero)) m (c ∷ []) = none
read_node (suc (suc zero)) m (c ∷ d ∷ cs) = cond (eqb m (size c)) (some (app c d ∷ cs)) none
read_node (suc (suc (suc t))) m cs = none

abbrev pub and_then : Option (List Code) → (List Code → Option (List Code)) → Option (List Code)
and_then none g = none
and_then (some cs) g = g cs

-- the codes that stand one after the other in a node list
abbrev pub forest : List Node → Option (List Code)
forest [] = some []
forest (node ∷ ns) = and_then (forest ns) (read_node node.tag node.argument)

abbrev pub single : Option (List Code) → Option Code
single none = none
single (some []) = none
single (some (c ∷ [])) = some c
single (some (c ∷ d ∷ cs)) = none

-- 01, refusal 5: the code that the nodes stand for, where they are one whole term using all of them with each left part's size right
abbrev pub read : List Node → Option Code
read ns = single (forest ns)
