-- Nodes that stand as their tags and the bytes of their arguments: the node at a place, and those from a place on.
-- Assumes nothing.
use Prim.Native.Nat.{ℕ, zero, suc, ◌+◌, ◌*◌, ◌≤◌, ◌<◌}
use mathlib.Core.Path.{◌≡◌, refl, sym, ap, ◌∙◌}
use mathlib.Core.Bool.{Bool, true, false, and-eq-true_iff, false≢true}
use mathlib.Core.List.{List, [], ◌∷◌}
use native.Mathlib.Omega.{arith}
use native.Mathlib.Numerals.{add-one}
use lib.ListN.{length, get_or, drop, length-map, drop_of_length-le}
use lib.Seq.{drop-cons}
use borrow.Author.Tests.{le-leb, leb-true}
use Rattle.std.specs.Prelude.{IsTrue, EachIndex, ◌↔◌}
use Rattle.termfile.specs.Nodes.{Node}
use Rattle.termfile.specs.File.{word, words, pairs, known}
use Rattle.termfile.proofs.Bytes.{length-words, tags-pairs}

-- the number i of a list of bytes stands at the byte j = 2 i
pub get_or_words : (l : List ℕ) (i j : ℕ) → j ≡ 2 * i → suc j < length l → get_or (words l) i 0 ≡ word (get_or l j 0) (get_or l (suc j) 0)
get_or_words [] i j e h = omega arith
get_or_words (a ∷ []) i j e h = omega arith
get_or_words (a ∷ b ∷ l) zero zero e h = refl
get_or_words (a ∷ b ∷ l) zero (suc j) e h = omega arith
get_or_words (a ∷ b ∷ l) (suc i) zero e h = omega arith
get_or_words (a ∷ b ∷ l) (suc i) (suc zero) e h = omega arith
get_or_words (a ∷ b ∷ l) (suc i) (suc (suc j)) e h = get_or_words l i j (omega arith) (omega arith)

pub get_or-pairs : (ts ms : List ℕ) (i : ℕ) (d : Node) → i < length ts → length ts ≡ length ms
    → get_or (pairs ts ms) i d ≡ record { tag = get_or ts i 0; argument = get_or ms i 0 }
get_or-pairs [] ms i d h e = absurd (omega arith)
get_or-pairs (t ∷ ts) [] i d h e = absurd (omega arith)
get_or-pairs (t ∷ ts) (m ∷ ms) zero d h e = refl
get_or-pairs (t ∷ ts) (m ∷ ms) (suc i) d h e = get_or-pairs ts ms i d (omega arith) (omega arith)

module _ (ts bs : List ℕ) (paired : length bs ≡ 2 * length ts) where
  length-arguments : length ts ≡ length (words bs)
  length-arguments = sym (length-words bs (length ts) paired)

  pub length-pairs : length (pairs ts (words bs)) ≡ length ts
  length-pairs =
      sym (length-map (pairs ts (words bs)) (λ n. n.tag)) ∙ ap length (tags-pairs ts (words bs) length-arguments)

  -- the nodes from i on, as a loop has it that has read the tag t and the argument m of node i
  pub pairs-next : (i : ℕ) → i < length ts → (t m : ℕ) → t ≡ get_or ts i 0 → m ≡ get_or (words bs) i 0
      → drop i (pairs ts (words bs)) ≡ record { tag = t; argument = m } ∷ drop (i + 1) (pairs ts (words bs))
  pairs-next i h t m a b =
      let none : Node = record { tag = 0; argument = 0 } in
      drop-cons (pairs ts (words bs)) i none (omega (arith, length-pairs))
      ∙ cc (add-one i, get_or-pairs ts (words bs) i none h length-arguments)

  pub pairs-end : (i : ℕ) → length ts ≤ i → drop i (pairs ts (words bs)) ≡ []
  pairs-end i h =
      let past : length (pairs ts (words bs)) ≤ i = omega (arith, length-pairs) in
      drop_of_length-le (pairs ts (words bs)) past

-- whether all tags are known, told from each
known_each : (ts : List ℕ) → EachIndex ts (λ k. get_or ts k 0 ≤ 2) → known ts ≡ true
known_each [] h = refl
known_each (t ∷ ts) h = rw (le-leb t 2 (h 0 (omega arith)), known_each ts (λ k l. h (suc k) (omega arith)))

each_known : (ts : List ℕ) → known ts ≡ true → EachIndex ts (λ k. get_or ts k 0 ≤ 2)
each_known [] e k l = omega arith
each_known (t ∷ ts) e zero l = leb-true t 2 ((and-eq-true_iff _ _).0 e).0
each_known (t ∷ ts) e (suc k) l = each_known ts ((and-eq-true_iff _ _).0 e).1 k (omega arith)

pub known_told : (ts : List ℕ) (b : Bool) → (IsTrue b ↔ EachIndex ts (λ k. get_or ts k 0 ≤ 2)) → b ≡ known ts
known_told ts true h = sym (known_each ts (h.0 refl))
known_told ts false h = go (known ts) refl
  where
    go : (b : Bool) → known ts ≡ b → false ≡ b
    go true e = absurd (false≢true (h.1 (each_known ts e)))
    go false e = refl
