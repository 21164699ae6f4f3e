-- What writing a file is held to: its bytes, given its tags and arguments.
use Rattle.std.specs.Prelude.{ℕ, List, ◌++◌, length}
use Rattle.termfile.specs.Canonical.{word_bytes, words_bytes}

-- the bytes of the term file with f free names and nodes with these tags and arguments
abbrev pub file_bytes : ℕ → List ℕ → List ℕ → List ℕ
file_bytes f ts ms = word_bytes f ++ (word_bytes (length ts) ++ (ts ++ words_bytes ms))
