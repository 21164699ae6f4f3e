-- What glow prints for a file, and what is promised of the function that writes it.
-- Letters: s are the file's bytes, l what the lent array holds before the call and l' what it holds after it, q what the call returns.
use Rattle.std.specs.Prelude.{ℕ, ◌≤◌, ◌<◌, ◌≡◌, List, length, Result, Ok, Err}
use Rattle.termfile.specs.Output.{overlay}
use Rattle.machine.specs.declared.Machine.TheVariants.{First}
use Rattle.machine.specs.Answer.{file_given}
use Rattle.machine.specs.Glow.{million, glow}
use Rattle.rendering.specs.Lines.{text_of}
use Rattle.rendering.specs.Promise.{longest_text}
use Rattle.rendering.specs.declared.Unrendered.{Unrendered}
use Rattle.rendering.specs.declared.Unrendered.TheVariants.{TooShort}

-- 01, Runs worked through: the lines for these bytes, on the first machine with glow's budget and stores
abbrev pub glow_text : List ℕ → List ℕ
glow_text s = text_of First (file_given s) million glow

pub record Tells (s : List ℕ) (q : Result ℕ Unrendered) (l l' : List ℕ) : Type 0 where
  -- an array that is long enough begins with the text afterwards, and nothing past it changes
  pub written : length (glow_text s) ≤ length l → q ≡ Ok (length (glow_text s))
  pub text : length (glow_text s) ≤ length l → l' ≡ overlay (glow_text s) l
  -- one that is too short is said to be, and is as it was
  pub short : length l < length (glow_text s) → q ≡ Err TooShort
  pub short_kept : length l < length (glow_text s) → l' ≡ l
  -- an array as long as the longest text is long enough for every file
  pub enough : longest_text ≤ length l → length (glow_text s) ≤ length l
