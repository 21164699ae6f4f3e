-- How a call meets its promise: by a refusal, by an output that is too short, or by writing all bytes.
-- Assumes nothing.
use Prim.Native.Nat.{ℕ, ◌≤◌, ◌<◌}
use mathlib.Core.Path.{◌≡◌, refl, sym, ap, ◌∙◌, subst⁻¹}
use mathlib.Core.Bool.{cond}
use mathlib.Core.List.{List}
use lib.ListN.{length}
use borrow.Author.Tests.{le-leb, lt-leb}
use Rattle.termfile.specs.Output.{overlay}
use Rattle.binary.specs.Answer.{Wanted, number, bytes, written, refused, number_of, Converts}
use Rattle.binary.specs.declared.Refusal.{Refusal}
use Rattle.binary.specs.declared.Refusal.TheVariants.{Output}
use Rattle.std.specs.Prelude.{Ok, Err}

pub converts-refused : {w : Wanted} (r : Refusal) (l : List ℕ) → w ≡ number (number_of r) → Converts w (Err r) l l
converts-refused r l e = subst⁻¹ (λ w. Converts w (Err r) l l) e (record { answer_is = refl; output_is = refl })

module _ {w : Wanted} {s : List ℕ} (l : List ℕ) (e : w ≡ bytes s) where
  pub converts-short : length l < length s → Converts w (Err Output) l l
  converts-short h =
      subst⁻¹ (λ w. Converts w (Err Output) l l) e
      (record {
        answer_is = sym (ap (λ q. cond q (written (length s)) (refused 12)) (lt-leb (length s) (length l) h));
        output_is = sym (ap (λ q. cond q (overlay s l) l) (lt-leb (length s) (length l) h));
      })

  pub converts-written : (n : ℕ) (l' : List ℕ) → length s ≤ length l → n ≡ length s → l' ≡ overlay s l → Converts w (Ok n) l l'
  converts-written n l' h i o =
      subst⁻¹ (λ w. Converts w (Ok n) l l') e
      (record {
        answer_is = ap written i ∙ sym (ap (λ q. cond q (written (length s)) (refused 12)) (le-leb (length s) (length l) h));
        output_is = o ∙ sym (ap (λ q. cond q (overlay s l) l) (le-leb (length s) (length l) h));
      })
