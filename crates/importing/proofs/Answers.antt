-- What import answers, by how scanning ends.
-- Assumes nothing.
use Prim.Native.Nat.{ℕ, ◌+◌, ◌*◌, ◌≤◌}
use mathlib.Core.Path.{◌≡◌, ap, ap₂, ◌∙◌}
use mathlib.Core.Bool.{true, cond}
use mathlib.Core.List.{List, ◌++◌}
use native.Mathlib.Omega.{arith}
use lib.ListN.{length, take, length-map}
use borrow.Author.Tests.{le-leb}
use Rattle.termfile.specs.File.{max_free}
use Rattle.termfile.specs.Canonical.{word_bytes, words_bytes, canonical, file_of}
use Rattle.termfile.proofs.Bytes.{length-file_of}
use Rattle.binary.specs.Answer.{number, bytes, padding, file_from, imported}
use Rattle.importing.specs.Ahead.{ahead}
use Rattle.importing.specs.Writing.{file_bytes}
use Rattle.importing.specs.Scanning.{reading_of, ReadTo}
use Rattle.importing.specs.declared.cursor.Cursor.{Cursor}
use Rattle.importing.specs.declared.placing.Scratch.{Scratch}

free-tested : (f : ℕ) (s : List ℕ) → f ≤ max_free → imported f s ≡ file_from f (reading_of f s)
free-tested f s few = ap (λ q. cond q (file_from f (reading_of f s)) (number 2)) (le-leb f max_free few)

module _ {N f : ℕ} {s : List ℕ} {n : ℕ} {c : Cursor} {r : Scratch N} (w : ReadTo f s n c r) where
  pub file-read : f ≤ max_free → padding (ahead s c) ≡ true → imported f s ≡ bytes (file_of f (canonical f w.term))
  file-read few e =
      free-tested f s few ∙ ap (file_from f) w.read_is ∙ ap (λ p. cond p (bytes (file_of f (canonical f w.term))) (number 15)) e

  pub file-length : 4 + 3 * n ≡ length (file_of f (canonical f w.term))
  file-length = omega (arith, length-file_of f (canonical f w.term), w.count)

  tags-count : length (take n r.tags) ≡ length (canonical f w.term)
  tags-count = ap length w.tags_are ∙ length-map (canonical f w.term) (λ node. node.tag)

  arguments-count : length (take n r.args) ≡ length (canonical f w.term)
  arguments-count = ap length w.arguments_are ∙ length-map (canonical f w.term) (λ node. node.argument)

  pub file-bytes : file_bytes f (take n r.tags) (take n r.args) ≡ file_of f (canonical f w.term)
  file-bytes =
      ap (λ k. word_bytes f ++ (word_bytes k ++ (take n r.tags ++ words_bytes (take n r.args)))) tags-count
      ∙ ap₂ (λ t m. word_bytes f ++ (word_bytes (length (canonical f w.term)) ++ (t ++ words_bytes m))) w.tags_are w.arguments_are
