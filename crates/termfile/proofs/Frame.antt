-- Where a file's tags, arguments and nodes stand in its bytes, and one step of a pass over them. The idea: a pass at node i has the
-- tags, or the nodes, from i on left, and these are the one at i in front of those from i + 1 on.
-- Assumes nothing.
use Prim.Native.Nat.{ℕ, suc, ◌+◌, ◌*◌, ◌≤◌, ◌<◌}
use mathlib.Core.Path.{◌≡◌, refl, sym, ap, ap₂, ◌∙◌}
use mathlib.Core.List.{List, [], ◌∷◌}
use native.Mathlib.Omega.{arith}
use native.Mathlib.Numerals.{add-one}
use lib.ListN.{length, get_or, drop, drop_of_length-le}
use lib.Seq.{drop-cons, get_or-take, get_or-drop}
use borrow.Author.Tests.{eq-eqb, ne_eqb}
use Rattle.termfile.specs.Nodes.{Node}
use Rattle.termfile.specs.File.{word, tags, arguments, nodes, node_count, count}
use Rattle.termfile.specs.Passes.{Framed}
use Rattle.termfile.proofs.Bytes.{behind}
use Rattle.termfile.proofs.Bytes as bytes
use Rattle.termfile.proofs.Pairs.{get_or_words, get_or-pairs}

-- where the tag and the argument of node i stand, in a file as long as its count says
module _ (s : List ℕ) {n : ℕ} (count : n ≡ node_count s) (exact : length s ≡ 4 + 3 * node_count s) where
  pub tag_at : (i : ℕ) → i < n → get_or (tags s) i 0 ≡ get_or s (4 + i) 0
  tag_at i h = get_or-take (node_count s) (drop 4 s) i 0 (omega arith) ∙ get_or-drop 4 s i 0

  pub argument-at : (i : ℕ) → i < n → get_or (arguments s) i 0 ≡ word (get_or s (4 + n + 2 * i) 0) (get_or s (4 + n + 2 * i + 1) 0)
  argument-at i h =
      ap (λ (l : List ℕ). get_or l i 0) (bytes.arguments_behind s exact)
      ∙ get_or_words (behind s) i (2 * i) refl (omega (arith, bytes.length-behind s exact))
      ∙ ap₂ word (byte_at (2 * i) low) (byte_at (suc (2 * i)) high)
    where
      byte_at : (j : ℕ) {k : ℕ} → 4 + node_count s + j ≡ k → get_or (behind s) j 0 ≡ get_or s k 0
      byte_at j e = get_or-drop (4 + node_count s) s j 0 ∙ ap (λ (k : ℕ). get_or s k 0) e

      low : 4 + node_count s + 2 * i ≡ 4 + n + 2 * i
      low = omega arith

      high : 4 + node_count s + suc (2 * i) ≡ 4 + n + 2 * i + 1
      high = omega arith

module _ {s : List ℕ} {n : ℕ} (framed : Framed s n) where
  -- the length test, as the file's own count has it
  pub exact : length s ≡ 4 + 3 * node_count s
  exact = omega (arith, framed.count, framed.long)

  length-tags : length (tags s) ≡ n
  length-tags = bytes.length-tags s exact ∙ sym framed.count

  length-arguments : length (arguments s) ≡ n
  length-arguments = bytes.length-arguments s exact ∙ sym framed.count

  pub length-nodes : length (nodes s) ≡ n
  length-nodes = bytes.length-nodes s exact ∙ sym framed.count

  -- the tags from i on, and the nodes from i on
  pub tags-step : (i : ℕ) → i < n → drop i (tags s) ≡ get_or (tags s) i 0 ∷ drop (suc i) (tags s)
  tags-step i h = drop-cons (tags s) i 0 (omega (arith, length-tags))

  pub nodes-step : (i : ℕ) → i < n → drop i (nodes s) ≡ record { tag = get_or (tags s) i 0; argument = get_or (arguments s) i 0 } ∷ drop (suc i) (nodes s)
  nodes-step i h =
      drop-cons (nodes s) i none (omega (arith, length-nodes))
      ∙ ap (λ (x : Node). x ∷ drop (suc i) (nodes s)) (get_or-pairs (tags s) (arguments s) i none (omega (arith, length-tags)) (length-tags ∙ sym length-arguments))
    where
      none : Node
      none = record { tag = 0; argument = 0 }

  -- the same, as a loop has it that has read the tag t and the argument m of node i
  pub nodes-next : (i : ℕ) → i < n → (t m : ℕ) → t ≡ get_or (tags s) i 0 → m ≡ get_or (arguments s) i 0
      → drop i (nodes s) ≡ record { tag = t; argument = m } ∷ drop (i + 1) (nodes s)
  nodes-next i h t m a b = nodes-step i h ∙ cc (add-one i)

  pub nodes-end : (i : ℕ) → n ≤ i → drop i (nodes s) ≡ []
  nodes-end i h = let past : length (nodes s) ≤ i = omega (arith, length-nodes) in drop_of_length-le (nodes s) past

  -- a pass over the tags
  module _ (i : ℕ) (left : i < n) (t : ℕ) (tag : t ≡ get_or (tags s) i 0) where
    tags-next : drop i (tags s) ≡ t ∷ drop (i + 1) (tags s)
    tags-next = tags-step i left ∙ cc (add-one i)

    pub count-step : (k : ℕ) → t ≡ k → count k (drop i (tags s)) ≡ 1 + count k (drop (i + 1) (tags s))
    count-step k h = rw (tags-next, eq-eqb t k h)

    pub count-other : (k : ℕ) → (t ≡ k → ⊥) → count k (drop i (tags s)) ≡ count k (drop (i + 1) (tags s))
    count-other k h = ap (count k) tags-next ∙ rw (ne_eqb t k h) (omega arith)

  pub tags-end : (i : ℕ) → n ≤ i → drop i (tags s) ≡ []
  tags-end i h = let past : length (tags s) ≤ i = omega (arith, length-tags) in drop_of_length-le (tags s) past
