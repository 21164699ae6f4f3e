-- What scanning the bits promises: how reading them ends, and the nodes of the term that was read.
-- Letters: f is the count of free names, s are the bytes, r are the arrays.
use Rattle.std.specs.Prelude.{ℕ, ◌+◌, ◌*◌, ◌≤◌, ◌<◌, ◌≡◌, List, map, length, take, Result, Ok, Err}
use Rattle.fireball.specs.Term.{Term}
use Rattle.termfile.specs.File.{max_nodes}
use Rattle.termfile.specs.Canonical.{canonical}
use Rattle.binary.specs.Bits.{bits_in}
use Rattle.binary.specs.Reading.{whole, nothing, Reading, unread, read, reading}
use Rattle.binary.specs.Answer.{number_of}
use Rattle.binary.specs.declared.Refusal.{Refusal}
use Rattle.importing.specs.Ahead.{ahead}
use Rattle.importing.specs.declared.cursor.Cursor.{Cursor}
use Rattle.importing.specs.declared.placing.Scratch.{Scratch}

-- an array of this length has room for each node of a term in so many bytes: a node takes at least two bits
abbrev pub Roomy : ℕ → ℕ → Type 0
Roomy bytes l = (k : ℕ) → k < max_nodes → 2 * k + 2 ≤ 8 * bytes → k < l

-- how reading the bits ends
abbrev pub reading_of : ℕ → List ℕ → Reading
reading_of f s = reading f nothing whole 0 (bits_in s)

-- a term of n nodes was read up to the cursor c, and its nodes stand at the front of the arrays
pub record ReadTo {N : ℕ} (f : ℕ) (s : List ℕ) (n : ℕ) (c : Cursor) (r : Scratch N) : Type 0 where
  pub term : Term
  pub read_is : reading_of f s ≡ read term (ahead s c)
  pub count : n ≡ length (canonical f term)
  pub tags_are : take n r.tags ≡ map (λ node. node.tag) (canonical f term)
  pub arguments_are : take n r.args ≡ map (λ node. node.argument) (canonical f term)
  pub few : n ≤ max_nodes
  pub fits : n ≤ N

-- how scanning ends: with a refusal, or with a term
abbrev pub Scans : {N : ℕ} → ℕ → List ℕ → Scratch N → Result (ℕ × Cursor) Refusal → Type 0
Scans f s r (Err why) = reading_of f s ≡ unread (number_of why)
Scans f s r (Ok (n, c)) = ReadTo f s n c r
