-- Nodes put one after the other: what is put, and what is left, are all bits.
-- Assumes nothing.
use Prim.Native.Nat.{ℕ, zero, suc, ◌+◌, ◌≤◌, ◌<◌}
use mathlib.Core.Path.{◌≡◌, refl, sym, ap, ap₂, ◌∙◌}
use mathlib.Core.Bool.{Bool, true, false}
use mathlib.Core.List.{List, [], ◌∷◌, ◌++◌, append_assoc, append-nil}
use native.Mathlib.Omega.{arith}
use native.Mathlib.Numerals.{add-one}
use lib.ListN.{length, get_or, drop, length-append, drop_of_length-le}
use lib.Seq.{drop-cons}
use Rattle.exporting.specs.Tokens.{token, tokens}

-- a tag that is neither a variable's nor an abstraction's
pub token-other : (t k : ℕ) → (t ≡ 0 → ⊥) → (t ≡ 1 → ⊥) → token t k ≡ false ∷ true ∷ []
token-other zero k a b = absurd (a refl)
token-other (suc zero) k a b = absurd (b refl)
token-other (suc (suc t)) k a b = refl

-- these bits are put, and those of the nodes from i on are left
abbrev pub Left : List ℕ → List ℕ → List Bool → ℕ → Type 0
Left ts ks bits i = bits ++ tokens (drop i ts) (drop i ks) ≡ tokens ts ks

module _ (ts ks : List ℕ) (same : length ts ≡ length ks) (bits : List Bool) (i : ℕ) where
  module _ (less : i < length ts) (e : Left ts ks bits i) where
    tokens-step : tokens (drop i ts) (drop i ks) ≡ token (get_or ts i 0) (get_or ks i 0) ++ tokens (drop (i + 1) ts) (drop (i + 1) ks)
    tokens-step =
        ap₂ tokens (drop-cons ts i 0 less) (drop-cons ks i 0 (omega arith))
        ∙ ap (λ j. token (get_or ts i 0) (get_or ks i 0) ++ tokens (drop j ts) (drop j ks)) (sym (add-one i))

    pub left-next : Left ts ks (bits ++ token (get_or ts i 0) (get_or ks i 0)) (i + 1)
    left-next =
        append_assoc bits (token (get_or ts i 0) (get_or ks i 0)) (tokens (drop (i + 1) ts) (drop (i + 1) ks))
        ∙ ap (λ l. bits ++ l) (sym tokens-step) ∙ e

    pub left-fits : length bits + length (token (get_or ts i 0) (get_or ks i 0)) ≤ length (tokens ts ks)
    left-fits =
        omega (
          arith,
          length-append (bits ++ token (get_or ts i 0) (get_or ks i 0)) (tokens (drop (i + 1) ts) (drop (i + 1) ks)),
          length-append bits (token (get_or ts i 0) (get_or ks i 0)),
          ap length left-next,
        )

  pub left-none : length ts ≤ i → Left ts ks bits i → bits ≡ tokens ts ks
  left-none h e =
      sym (append-nil bits) ∙ ap (λ l. bits ++ l) (sym (ap₂ tokens (drop_of_length-le ts h) refl)) ∙ e
