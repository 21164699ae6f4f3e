-- What the answer of a prelude's check tells of the prelude.
-- Assumes nothing.
use Prim.Native.Nat.{ℕ}
use mathlib.Core.Path.{◌≡◌, refl, ap}
use mathlib.Core.List.{List}
use mathlib.Core.Option.{Option, none, some}
use native.Mathlib.Omega.{arith}
use Rattle.prelude.specs.Prelude.{definition_files, prelude_refusal, sums}
use Rattle.prelude.specs.Answer.{refused, accepted, answered, answer}
use Rattle.prelude.specs.declared.Sums.{Sums}

pub answered-refused : (o : Option ℕ) (k : ℕ) (m : Sums) → refused k ≡ answered o m → o ≡ some k
answered-refused (some j) k m e = let same : j ≡ k = cc in ap some same
answered-refused none k m e = let z : ◌≡◌ {A = ℕ} 0 1 = cc in absurd (omega arith)

pub answered-accepted : (o : Option ℕ) (n m : Sums) → accepted n ≡ answered o m → (o ≡ none) × (n ≡ m)
answered-accepted (some j) n m e = let z : ◌≡◌ {A = ℕ} 0 1 = cc in absurd (omega arith)
answered-accepted none n m e = (refl, cc)

module _ (f : ℕ) (p : List ℕ) where
  pub prelude_refused : (k : ℕ) → refused k ≡ answer f p → prelude_refusal f p ≡ some k
  prelude_refused k e = answered-refused (prelude_refusal f p) k (sums (definition_files p)) e

  pub prelude-accepted : (m : Sums) → accepted m ≡ answer f p → (prelude_refusal f p ≡ none) × (m ≡ sums (definition_files p))
  prelude-accepted m e = answered-accepted (prelude_refusal f p) m (sums (definition_files p)) e
