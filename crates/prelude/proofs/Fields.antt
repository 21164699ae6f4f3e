-- What the head of a definition says that is accepted: whether it is an abstraction.
-- Assumes nothing.
use Prim.Native.Nat.{ℕ, ◌<◌}
use mathlib.Core.Path.{◌≡◌, refl, sym, ap, ◌∙◌}
use mathlib.Core.Bool.{false}
use mathlib.Core.List.{List, ◌∷◌, map}
use mathlib.Core.Option.{none}
use native.Mathlib.Omega.{arith}
use lib.Dec.{eqb}
use lib.ListN.{length, get_or}
use borrow.Author.Tests.{eq-eqb, ne_eqb}
use Rattle.termfile.specs.Code.{Code, var, abs, app}
use Rattle.termfile.specs.Nodes.{write}
use Rattle.termfile.specs.File.{code_of, holds, refusal}
use Rattle.termfile.proofs.Acceptance.{accepted, nodes-code}
use Rattle.termfile.proofs.Bytes.{tags-nodes}
use Rattle.termfile.proofs.Frame.{tag_at}
use Rattle.prelude.specs.Prelude.{each_refusal, is_abstraction, all_abstractions}
use Rattle.prelude.proofs.Refusals.{or_else-none}

-- the first node of a code tells an abstraction
write-head : (c : Code) → is_abstraction c ≡ eqb (get_or (map (λ n. n.tag) (write c)) 0 0) 1
write-head (var x) = refl
write-head (abs x c) = refl
write-head (app c d) = refl

-- the tag of the first node of an accepted file
first_tag : (s : List ℕ) → refusal s ≡ none → holds is_abstraction (code_of s) ≡ eqb (get_or s 4 0) 1
first_tag s accepts =
    let file = accepted s accepts in
    ap (holds is_abstraction) file.is_code
    ∙ write-head file.code
    ∙ ap (λ l. eqb (get_or l 0 0) 1) (sym (ap (map (λ n. n.tag)) (nodes-code file)) ∙ tags-nodes s file.exact)
    ∙ ap (λ t. eqb t 1) (tag_at s refl file.exact 0 file.nodes_pos)

-- the first of several definitions that are accepted
module _ {ss later : List (List ℕ)} {s : List ℕ} (split : ss ≡ s ∷ later) (accepts : each_refusal ss ≡ none) where
  both : (refusal s ≡ none) × (each_refusal later ≡ none)
  both = or_else-none (refusal s) (each_refusal later) (sym (ap each_refusal split) ∙ accepts)

  pub later_accepted : each_refusal later ≡ none
  later_accepted = both.1

  pub head_long : 4 < length s
  head_long = let file = accepted s both.0 in omega (arith, file.exact, file.nodes_pos)

  pub abstraction_next : get_or s 4 0 ≡ 1 → all_abstractions ss ≡ all_abstractions later
  abstraction_next e = rw (split, first_tag s both.0, eq-eqb (get_or s 4 0) 1 e)

  pub abstraction_missing : (get_or s 4 0 ≡ 1 → ⊥) → all_abstractions ss ≡ false
  abstraction_missing e = rw (split, first_tag s both.0, ne_eqb (get_or s 4 0) 1 e)
