-- The nodes of a term line: where they end, and how long they are.
-- Letters: ts are tags, ms arguments.
-- Assumes nothing.
use Prim.Native.Nat.{ℕ, ◌+◌, ◌<◌}
use mathlib.Core.Path.{◌≡◌, refl, ap}
use mathlib.Core.List.{List, [], ◌∷◌, map}
use native.Mathlib.Omega.{arith}
use native.Mathlib.Numerals.{add-one}
use lib.ListN.{length, get_or, drop, length-append}
use Rattle.std.proofs.Common.{◌⊎◌, inl, inr}
use lib.Seq.{drop-cons}
use Rattle.termfile.specs.File.{pairs}
use Rattle.rendering.specs.Decimal.{decimal}
use Rattle.rendering.specs.Lines.{ascii, line, node_word}
use Rattle.rendering.specs.Putting.{nodes_text, nodes_bytes}

-- no nodes are to come where either list is at its end
pub nodes-none : (ts ms : List ℕ) → length ts ≡ length ms → (ts ≡ []) ⊎ (ms ≡ []) → nodes_text ts ms ≡ []
nodes-none [] ms e h = refl
nodes-none (t ∷ ts) ms e (inl h) = let z : ◌≡◌ {A = ℕ} 0 1 = cc in absurd (omega arith)
nodes-none (t ∷ ts) ms e (inr h) = absurd (omega (arith, ap length h))

pub bytes_next : (ms : List ℕ) (i : ℕ) → i < length ms
    → nodes_bytes (drop i ms) ≡ 2 + length (decimal (get_or ms i 0)) + nodes_bytes (drop (i + 1) ms)
bytes_next ms i k = rw (add-one, drop-cons ms i 0 k)

-- the bytes of the text are those that its arguments take
pub nodes-length : (ts ms : List ℕ) → length ts ≡ length ms → length (nodes_text ts ms) ≡ nodes_bytes ms
nodes-length [] [] e = refl
nodes-length [] (m ∷ ms) e = absurd (omega arith)
nodes-length (t ∷ ts) [] e = absurd (omega arith)
nodes-length (t ∷ ts) (m ∷ ms) e =
    omega (arith, length-append (decimal m) (nodes_text ts ms), nodes-length ts ms (omega arith))

-- a term line, `term` and the newline too
pub term-length : (ts ms : List ℕ) → length ts ≡ length ms → length (line (ascii "term") (map node_word (pairs ts ms))) ≡ 5 + nodes_bytes ms
term-length ts ms e = omega (arith, length-append (nodes_text ts ms) (10 ∷ []), nodes-length ts ms e)
