-- Refusal 6 as a pass over the nodes, left to right. The idea: prefix order is the order in which the pass meets the abstractions, so it
-- need only count them. Letters: k is the name that the next abstraction has to bind.
-- Assumes nothing.
use Prim.Native.Nat.{ℕ, suc, ◌+◌}
use mathlib.Core.Path.{◌≡◌, refl, sym, ap, ◌∙◌}
use mathlib.Core.Bool.{Bool, true, false, cond, ◌&&◌, and_assoc, and-true, false≢true}
use mathlib.Core.List.{List, [], ◌∷◌, ◌++◌, append_assoc, append-nil}
use mathlib.Core.Option.{Option, none, some}
use native.Mathlib.Omega.{arith}
use native.Mathlib.Numerals.{add-one}
use lib.Dec.{eqb}
use borrow.Author.Tests.{eq-eqb, ne_eqb}
use Rattle.termfile.specs.Code.{Code, var, abs, app, numbered, abstractions}
use Rattle.termfile.specs.Nodes.{Node, write, read}
use Rattle.termfile.specs.File.{holds}
use Rattle.termfile.proofs.Reading.{read_is}

abbrev pub ordered : ℕ → List Node → Bool
ordered k [] = true
ordered k (node ∷ ns) = cond (eqb node.tag 1) (eqb node.argument k && ordered (suc k) ns) (ordered k ns)

ordered-write : (c : Code) (k : ℕ) (ns : List Node) → ordered k (write c ++ ns) ≡ numbered k c && ordered (k + abstractions c) ns
ordered-write (var x) k ns = ap (λ (j : ℕ). ordered j ns) (omega arith)
ordered-write (abs x c) k ns =
    ap (λ (b : Bool). eqb x k && b) (ordered-write c (suc k) ns ∙ ap (λ (j : ℕ). numbered (suc k) c && ordered j ns) names)
    ∙ sym (and_assoc (eqb x k) (numbered (suc k) c) (ordered (k + (1 + abstractions c)) ns))
  where
    names : suc k + abstractions c ≡ k + (1 + abstractions c)
    names = omega arith
ordered-write (app c d) k ns =
    ap (ordered k) (append_assoc (write c) (write d) ns)
    ∙ ordered-write c k (write d ++ ns)
    ∙ ap (λ (b : Bool). numbered k c && b) (ordered-write d (k + abstractions c) ns ∙ ap (λ (j : ℕ). numbered (k + abstractions c) d && ordered j ns) names)
    ∙ sym (and_assoc (numbered k c) (numbered (k + abstractions c) d) (ordered (k + (0 + abstractions c + abstractions d)) ns))
  where
    names : k + abstractions c + abstractions d ≡ k + (0 + abstractions c + abstractions d)
    names = omega arith

-- over the nodes of a code the pass is the paper's condition
pub ordered-code : (ns : List Node) (f : ℕ) → holds (λ c. true) (read ns) ≡ true → ordered f ns ≡ holds (numbered f) (read ns)
ordered-code ns f h = go (read ns) (read_is ns) h
  where
    go : (o : Option Code) → ((c : Code) → o ≡ some c → ns ≡ write c) → holds (λ c. true) o ≡ true → ordered f ns ≡ holds (numbered f) o
    go none r p = absurd (false≢true p)
    go (some c) r p = ap (ordered f) (r c refl ∙ sym (append-nil (write c))) ∙ ordered-write c f [] ∙ and-true (numbered f c)

module _ {ns later : List Node} (t m k : ℕ) (node : ns ≡ record { tag = t; argument = m } ∷ later) where
  pub order-binder : t ≡ 1 → m ≡ k → ordered k ns ≡ ordered (k + 1) later
  order-binder a b = rw (node, eq-eqb t 1 a, eq-eqb m k b, add-one k)

  pub order-broken : t ≡ 1 → (m ≡ k → ⊥) → ordered k ns ≡ false
  order-broken a b = rw (node, eq-eqb t 1 a, ne_eqb m k b)

  pub order_other : (t ≡ 1 → ⊥) → ordered k ns ≡ ordered k later
  order_other a = rw (node, ne_eqb t 1 a)
