-- What the answer of a file's check tells of the file.
-- Assumes nothing.
use Prim.Native.Nat.{ℕ}
use mathlib.Core.Path.{◌≡◌, refl, ap}
use mathlib.Core.List.{List}
use mathlib.Core.Option.{Option, none, some}
use native.Mathlib.Omega.{arith}
use Rattle.termfile.specs.File.{refusal, counts}
use Rattle.termfile.specs.Answer.{refused, accepted, answered, answer}
use Rattle.termfile.specs.declared.Counts.{Counts}

pub file_refused : (s : List ℕ) (k : ℕ) → refused k ≡ answer s → refusal s ≡ some k
file_refused s k e = go (refusal s) e
  where
    go : (o : Option ℕ) → refused k ≡ answered o (counts s) → o ≡ some k
    go (some j) i = let same : j ≡ k = cc in ap some same
    go none i = let z : ◌≡◌ {A = ℕ} 0 1 = cc in absurd (omega arith)

pub file-accepted : (s : List ℕ) (c : Counts) → accepted c ≡ answer s → (refusal s ≡ none) × (c ≡ counts s)
file-accepted s c e = go (refusal s) e
  where
    go : (o : Option ℕ) → accepted c ≡ answered o (counts s) → (o ≡ none) × (c ≡ counts s)
    go (some j) i = let z : ◌≡◌ {A = ℕ} 0 1 = cc in absurd (omega arith)
    go none i = (refl, cc)
