-- The prelude of no definition changes nothing.
-- Assumes nothing.
use Prim.Native.Nat.{ℕ}
use mathlib.Core.Path.{◌≡◌, refl, ap, ◌∙◌}
use mathlib.Core.List.{List, [], ◌∷◌}
use mathlib.Core.Option.{Option, none, some}
use native.Mathlib.Omega.{arith}
use borrow.Author.Tests.{le-leb}
use Rattle.termfile.specs.File.{free_names, refusal}
use Rattle.prelude.specs.Prelude.{or_else, prelude_refusal, refusal_with}

abbrev pub empty : List ℕ
empty = 0 ∷ 0 ∷ []

pub empty-accepted : (f : ℕ) → prelude_refusal f empty ≡ none
unfolding prelude_refusal
empty-accepted f = rw (le-leb 0 f (omega arith))

pub empty-with : (s : List ℕ) → refusal_with empty s ≡ refusal s
empty-with s = ap (or_else (refusal s)) (empty-accepted (free_names s)) ∙ nothing-else (refusal s)
  where
    nothing-else : (o : Option ℕ) → or_else o none ≡ o
    nothing-else none = refl
    nothing-else (some k) = refl
