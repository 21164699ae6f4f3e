-- What the check's private functions are held to, beyond the paper's definitions: where a file's parts lie, what the tests of its nodes
-- find, and the sizes of a code's subterms. Letters: s is a list of bytes, n its count of nodes, f that of free names, l that of abstractions.
use Rattle.std.specs.Prelude.{ℕ, ◌+◌, ◌-◌, ◌*◌, ◌/◌, ◌≤◌, ◌≡◌, cond, ◌&&◌, List, [], ◌∷◌, ◌++◌, true, length, Option, Some, None}
use Rattle.std.proofs.Math.Option as math
use Rattle.std.proofs.Math.Option.{none, some}
use Rattle.termfile.specs.Code.{Code, var, abs, app, size, abstractions, numbered, scoped}
use Rattle.termfile.specs.Nodes.{Node, read}
use Rattle.termfile.specs.File.{words, pairs, node_count, max_nodes, known, holds, unless, count}
use Rattle.termfile.specs.Answer.{Answer, answered}
use Rattle.termfile.specs.declared.parts.Parts.{Parts}
use Rattle.termfile.specs.declared.Counts.{Counts}

-- a file that has passed the refusals 1 to 3
pub record Framed (s : List ℕ) (n : ℕ) : Type 0 where
  pub count : n ≡ node_count s
  pub long : length s ≡ 4 + 3 * n
  pub least : 1 ≤ n
  pub most : n ≤ max_nodes

-- the nodes of a file with these parts, and the code that they stand for, if for one
abbrev pub nodes_in : Parts → List Node
nodes_in ps = pairs ps.tags.now (words ps.arguments.now)

abbrev pub code_in : Parts → math.Option Code
code_in ps = read (nodes_in ps)

-- the tests 5 to 7, of f free names and of the code that the nodes stand for
abbrev pub node_tests : ℕ → math.Option Code → math.Option ℕ
node_tests f o = unless (holds (λ c. true) o) 5 (unless (holds (numbered f) o) 6 (unless (holds (scoped f []) o) 7 none))

-- the refusal of a file with these parts, its counts and its answer
abbrev pub refusal_in : Parts → math.Option ℕ
refusal_in ps = unless (known ps.tags.now) 4 (node_tests ps.free (code_in ps))

abbrev pub counts_with : ℕ → List ℕ → Counts
counts_with f ts =
    record { free = f; nodes = length ts; abstractions = count 1 ts; variables = count 0 ts; applications = count 2 ts }

abbrev pub answer_in : Parts → Answer
answer_in ps = answered (refusal_in ps) (counts_with ps.free ps.tags.now)

-- what the tests 4 to 7 find, where the nodes stand for this code, if for any: the number of its abstractions, where it passes them
abbrev pub tested : ℕ → math.Option Code → Option ℕ
tested f none = None
tested f (some c) = cond (numbered f c && scoped f [] c) (Some (abstractions c)) None

-- the counts of a code with n nodes: of those that are no abstractions, one more is a variable than is an application
abbrev pub counts_from : ℕ → ℕ → ℕ → Counts
counts_from f n l =
    record { free = f; nodes = n; abstractions = l; variables = (n - l + 1) / 2; applications = (n - l + 1) / 2 - 1 }

-- the sizes of the subterms of a code, in prefix order: the whole first, and then those below it
abbrev pub sizes_below : Code → List ℕ
sizes_below (var x) = []
sizes_below (abs x c) = size c ∷ sizes_below c
sizes_below (app c d) = (size c ∷ sizes_below c) ++ (size d ∷ sizes_below d)

abbrev pub sizes_in : Code → List ℕ
sizes_in c = size c ∷ sizes_below c

-- those of codes that stand one after the other
abbrev pub sizes_of : List Code → List ℕ
sizes_of [] = []
sizes_of (c ∷ cs) = sizes_in c ++ sizes_of cs

-- the size of the code that a node read has put in front, if it has
abbrev pub joined : math.Option (List Code) → Option ℕ
joined none = None
joined (some []) = None
joined (some (c ∷ cs)) = Some (size c)
