-- What is rendered after a call with glow's budget and stores is what glow prints.
-- Assumes nothing.
use Prim.Native.Nat.{ℕ, ◌≤◌, ◌<◌}
use mathlib.Core.Path.{◌≡◌, refl, ap, ◌∙◌, subst}
use mathlib.Core.Bool.{Bool, true, false}
use mathlib.Core.List.{List}
use native.Mathlib.Omega.{arith}
use Rattle.std.proofs.Common.{Result, Ok, Err}
use lib.Dec.{leb}
use lib.ListN.{length, replicate, length-replicate}
use borrow.Author.Tests.{leb-true, leb-false}
use Rattle.termfile.specs.Output.{overlay}
use Rattle.machine.specs.declared.Machine.TheVariants.{First}
use Rattle.machine.specs.Glow.{million, glow}
use Rattle.evaluator.specs.Calling.{told}
use Rattle.machine.specs.Answer.{file_given}
use Rattle.evaluator.proofs.Promises.{file-few}
use Rattle.evaluator.specs.Promise.{Memory, stores_in, Called}
use Rattle.evaluator.specs.declared.Answer.{Answer}
use Rattle.rendering.specs.Lines.{lines, text_of}
use Rattle.rendering.specs.Promise.{nodes_in, Renders}
use Rattle.rendering.specs.declared.Unrendered.{Unrendered}
use Rattle.rendering.specs.declared.Unrendered.TheVariants.{TooShort}
use Rattle.rendering.proofs.Given.{called-given, called-text}
use Rattle.command.specs.Telling.{glow_text, Tells}

-- arrays of glow's lengths
pub record GlowLengths (m : Memory) : Type 0 where
  pub tags : length m.tags ≡ 16384
  pub arguments : length m.arguments ≡ 16384
  pub codes : length m.codes ≡ 16384
  pub owns : length m.owns ≡ 16384
  pub nexts : length m.nexts ≡ 16384
  pub places : length m.places ≡ 32768
  pub renumber : length m.renumber ≡ 32768
  pub output_tags : length m.output_tags ≡ 16384
  pub output_arguments : length m.output_arguments ≡ 16384

-- 01, Runs worked through: "its stores are zeroed arrays of 16,384 nodes, 16,384 cells and 32,768 names, renumber store 32,768, output 16,384"
stores-are : (m : Memory) → GlowLengths m → stores_in m ≡ glow
stores-are m g =
    rw (g.tags, g.arguments, g.codes, g.owns, g.nexts, g.places, g.renumber, g.output_tags, g.output_arguments)

-- what is not shorter fits
fits : (n k : ℕ) → (k < n → ⊥) → (b : Bool) → leb n k ≡ b → n ≤ k
fits n k not true e = leb-true n k e
fits n k not false e = absurd (not (leb-false n k e))

pub tells : {s : List ℕ} {a : Answer} {m m' : Memory} {q : Result ℕ Unrendered} {l l' : List ℕ} → GlowLengths m → Called First (file_given s) million a m m'
    → Renders (told a) m'.output_tags m'.output_arguments q l l' → Tells s q l l'
tells {s} {a} {m} {m'} {q} {l} {l'} g c r =
    let given = (called-given (omega arith) (file-few s) c).tellable in
    let same : lines (told a) (nodes_in (told a) m'.output_tags m'.output_arguments) ≡ glow_text s =
    called-text (omega arith) (file-few s) c ∙ ap (text_of First (file_given s) million) (stores-are m g) in
    let short : length l < length (glow_text s) → q ≡ Err TooShort = subst (λ t. length l < length t → q ≡ Err TooShort) same (r.short given) in
    record {
      written = subst (λ t. length t ≤ length l → q ≡ Ok (length t)) same (r.written given);
      text = subst (λ t. length t ≤ length l → l' ≡ overlay t l) same (r.text given);
      short = short;
      short_kept = subst (λ t. length l < length t → l' ≡ l) same (r.short_kept given);
      enough = λ h. fits (length (glow_text s)) (length l) (λ less. r.enough h (short less)) (leb (length (glow_text s)) (length l)) refl;
    }

-- arrays of zeros
pub zeros : (n : ℕ) → length (replicate {A = ℕ} n 0) ≡ n
zeros n = length-replicate {A = ℕ} n 0
