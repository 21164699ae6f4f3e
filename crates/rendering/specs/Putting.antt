-- What the parts of rendering promise: putting texts one after the other into an array.
-- Letters: ts is a text, w what is written before and w' after; of nodes ts are the tags and ms the arguments.
use Rattle.std.specs.Prelude.{ℕ, ◌+◌, ◌≤◌, ◌≡◌, List, [], ◌∷◌, map, length}
use Rattle.std.proofs.lemmas.List.Edits.{sets}
use Rattle.termfile.specs.File.{pairs}
use Rattle.rendering.specs.Decimal.{decimal}
use Rattle.rendering.specs.Lines.{spaced, node_word}
use Rattle.rendering.specs.declared.words.Text.{Text}

-- the text fits into the array behind what is written
pub record Room (ts : List ℕ) (w : Text) : Type 0 where
  pub fits : w.len + length ts ≤ length w.out.now

-- the text stands in the array behind what was written, and it is now written too; the rest is as it was, in the same array
pub record Put (ts : List ℕ) (w w' : Text) : Type 0 where
  pub len_is : w'.len ≡ w.len + length ts
  pub array_is : w'.out.now ≡ sets w.out.now w.len ts
  pub same_array : w'.out.ghost_name ≡ w.out.ghost_name

-- the nodes with these tags and arguments in a term line, each with a space before it
abbrev pub nodes_text : List ℕ → List ℕ → List ℕ
nodes_text ts ms = spaced (map node_word (pairs ts ms))

-- the bytes that they take: a space, a letter and the digits of each argument
abbrev pub nodes_bytes : List ℕ → ℕ
nodes_bytes [] = 0
nodes_bytes (m ∷ ms) = 2 + length (decimal m) + nodes_bytes ms
