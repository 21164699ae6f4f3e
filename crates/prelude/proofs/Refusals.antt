-- The tests of `prelude_refusal`, one after the other: what the answer is where 17 refuses a prelude, and what is left of the tests where it
-- has passed.
-- Assumes nothing.
use Prim.Native.Nat.{ℕ}
use mathlib.Core.Path.{◌≡◌, refl}
use mathlib.Core.Bool.{true, false}
use mathlib.Core.List.{List}
use mathlib.Core.Option.{Option, none, some, some-ne-none}
use Rattle.termfile.specs.File.{unless}
use Rattle.prelude.specs.Prelude.{definition_files, whole_for, or_else, each_refusal, all_abstractions, in_place, prelude_refusal, sums}
use Rattle.prelude.specs.Answer.{refused, answered, answer}

-- where neither a refusal nor those after it are met
pub or_else-none : (o rest : Option ℕ) → or_else o rest ≡ none → (o ≡ none) × (rest ≡ none)
or_else-none none rest e = (refl, e)
or_else-none (some k) rest e = absurd (some-ne-none k e)

module _ (f : ℕ) (p : List ℕ) where
  pub cut_refused : whole_for f p ≡ false → refused 17 ≡ answer f p
  unfolding prelude_refusal
  cut_refused h = rw h

  -- told from the definitions
  pub cut_answer : (ss : List (List ℕ)) → whole_for f p ≡ true → ss ≡ definition_files p
      → answer f p ≡ answered (or_else (each_refusal ss) (unless (all_abstractions ss) 18 (unless (in_place 0 ss) 19 none))) (sums ss)
  unfolding prelude_refusal
  cut_answer ss h e = rw (e, h)
