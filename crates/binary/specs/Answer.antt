-- What `import` and `export` answer, and what they leave in the output array.
-- Letters: s are the bytes of bits or of a file, f is the count of free names, l what the output array holds before.
use Rattle.std.specs.Prelude.{ℕ, ◌≡◌, Bool, true, cond, not, ◌&&◌, List, [], ◌∷◌, leb, ltb, length, Result, Ok, Err}
use Rattle.std.proofs.Math.Option.{Option, none, some}
use Rattle.termfile.specs.File.{max_free, file_term, refusal}
use Rattle.termfile.specs.Canonical.{canonical, file_of}
use Rattle.termfile.specs.Output.{overlay}
use Rattle.termfile.specs.Answer as termfile
use Rattle.binary.specs.Bits.{bits_in, bits, pack}
use Rattle.binary.specs.Reading.{Reading, unread, read, reading, whole, nothing}
use Rattle.binary.specs.declared.Refusal.{Refusal}
use Rattle.binary.specs.declared.Refusal.TheVariants.{File, Output, Ends, Padding, Range}

-- the bytes that are to be written, or the number of a refusal
pub data Wanted : Type 0 where
  number : ℕ → Wanted
  bytes : List ℕ → Wanted

abbrev pub zeros : List Bool → Bool
zeros [] = true
zeros (b ∷ bs) = not b && zeros bs

-- 02, request 1: "15, nonzero padding or a spare byte": behind the term there are fewer than 8 bits, and each is a zero
abbrev pub padding : List Bool → Bool
padding bs = ltb (length bs) 8 && zeros bs

-- "15 .. follows": the file of a term that was read
abbrev pub file_from : ℕ → Reading → Wanted
file_from f (unread k) = number k
file_from f (read t bs) = cond (padding bs) (bytes (file_of f (canonical f t))) (number 15)

-- "The caller states f, and refusal 2 tests it first"
abbrev pub imported : ℕ → List ℕ → Wanted
imported f s = cond (leb f max_free) (file_from f (reading f nothing whole 0 (bits_in s))) (number 2)

-- "Export tests refusals 1 to 7 first"
abbrev pub bits_unless : Option ℕ → List ℕ → Wanted
bits_unless (some k) s = number k
bits_unless none s = bytes (pack (bits 0 (file_term s)))

abbrev pub exported : List ℕ → Wanted
exported s = bits_unless (refusal s) s

-- the number of bytes written, or of a refusal
pub data Answer : Type 0 where
  refused : ℕ → Answer
  written : ℕ → Answer

-- "In both, refusal 12, the output too short, is tested last": the answer for an output of so many bytes
abbrev pub answer : Wanted → ℕ → Answer
answer (number k) room = refused k
answer (bytes s) room = cond (leb (length s) room) (written (length s)) (refused 12)

-- "a refusal writes nothing, and nothing past the result changes"
abbrev pub output : Wanted → List ℕ → List ℕ
output (number k) l = l
output (bytes s) l = cond (leb (length s) (length l)) (overlay s l) l

-- the number of each case
abbrev pub number_of : Refusal → ℕ
number_of (File r) = termfile.number r
number_of Output = 12
number_of Ends = 14
number_of Padding = 15
number_of Range = 16

abbrev pub told : Result ℕ Refusal → Answer
told (Ok n) = written n
told (Err r) = refused (number_of r)

-- what a call of `import` or `export` with this result promises: its answer, and what the output then holds
pub record Converts (w : Wanted) (r : Result ℕ Refusal) (l l' : List ℕ) : Type 0 where
  pub answer_is : told r ≡ answer w (length l)
  pub output_is : l' ≡ output w l
