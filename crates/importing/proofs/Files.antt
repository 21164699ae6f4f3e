-- Writing a file: after each turn the tags and the arguments of the nodes so far are stored, and in the end the whole file.
-- Assumes nothing.
use Prim.Native.Nat.{ℕ, ◌+◌, ◌*◌, ◌/◌, ◌%◌, ◌≤◌, ◌<◌}
use mathlib.Core.Path.{◌≡◌, sym, ap, ◌∙◌}
use mathlib.Core.List.{List, [], ◌∷◌, ◌++◌}
use native.Mathlib.Omega.{arith}
use native.Mathlib.Numerals.{add-one}
use lib.ListN.{length, get_or, take, set, length-append}
use lib.Seq.{sets, take-suc, take_all, length-take-le}
use Rattle.termfile.specs.Canonical.{word_bytes, words_bytes}
use Rattle.termfile.specs.Output.{overlay}
use Rattle.termfile.proofs.Bytes.{words_bytes-append, length-words_bytes}
use Rattle.termfile.proofs.Sets.{sets-append, set_before, sets-front}
use Rattle.importing.specs.Writing.{file_bytes}

-- one number more behind those that are stored
pub word-stored : (l ws : List ℕ) (at i : ℕ) → i < length ws
    → set (set (sets l at (words_bytes (take i ws))) (at + 2 * i) (get_or ws i 0 % 256)) (at + 2 * i + 1) (get_or ws i 0 / 256)
    ≡ sets l at (words_bytes (take (i + 1) ws))
word-stored l ws at i less =
    let w = words_bytes (take i ws) in
    let e : at + 2 * i ≡ at + length w = omega (arith, length-words_bytes (take i ws), length-take-le i ws (omega arith)) in
    ap (λ k. set (set (sets l at w) (at + 2 * i) (get_or ws i 0 % 256)) k (get_or ws i 0 / 256)) (add-one (at + 2 * i))
    ∙ ap (λ k. sets (sets l at w) k (word_bytes (get_or ws i 0))) e ∙ sets-append w (word_bytes (get_or ws i 0)) at l
    ∙ ap (sets l at) (sym (words_bytes-append (take i ws) (get_or ws i 0 ∷ []))) ∙ ap (λ m. sets l at (words_bytes m)) (sym (take-suc ws i 0 less))
    ∙ ap (λ k. sets l at (words_bytes (take k ws))) (sym (add-one i))

-- the first i of n nodes are stored behind the counts
abbrev pub stored : List ℕ → List ℕ → List ℕ → ℕ → ℕ → List ℕ
stored l ts ms n i = sets (sets l 4 (take i ts)) (4 + n) (words_bytes (take i ms))

module _ (l ts ms : List ℕ) (n : ℕ) (n-tags : n ≡ length ts) (n-arguments : n ≡ length ms) where
  module _ (i : ℕ) (less : i < n) where
    tag-stored : set (sets l 4 (take i ts)) (4 + i) (get_or ts i 0) ≡ sets l 4 (take (i + 1) ts)
    tag-stored =
        let e : 4 + i ≡ 4 + length (take i ts) = omega (arith, length-take-le i ts (omega arith)) in
        ap (λ k. set (sets l 4 (take i ts)) k (get_or ts i 0)) e ∙ sets-append (take i ts) (get_or ts i 0 ∷ []) 4 l
        ∙ ap (sets l 4) (sym (take-suc ts i 0 (omega arith))) ∙ ap (λ k. sets l 4 (take k ts)) (sym (add-one i))

    pub stored_more : (out : List ℕ) → out ≡ stored l ts ms n i
        → set (set (set out (4 + i) (get_or ts i 0)) (4 + n + 2 * i) (get_or ms i 0 % 256)) (4 + n + 2 * i + 1) (get_or ms i 0 / 256) ≡ stored l ts ms n (i + 1)
    stored_more out e =
        ap (λ m. set (set m (4 + n + 2 * i) (get_or ms i 0 % 256)) (4 + n + 2 * i + 1) (get_or ms i 0 / 256))
        (ap (λ o. set o (4 + i) (get_or ts i 0)) e
        ∙ set_before (words_bytes (take i ms)) (4 + n) (4 + i) (get_or ts i 0) (sets l 4 (take i ts)) (omega arith)
        ∙ ap (λ a. sets a (4 + n) (words_bytes (take i ms))) tag-stored)
        ∙ word-stored (sets l 4 (take (i + 1) ts)) ms (4 + n) i (omega arith)

  -- all of them
  pub stored-all : (i : ℕ) → n ≤ i → stored l ts ms n i ≡ sets (sets l 4 ts) (4 + n) (words_bytes ms)
  stored-all i done =
      ap (λ t. sets (sets l 4 t) (4 + n) (words_bytes (take i ms))) (take_all i ts (omega arith))
      ∙ ap (λ m. sets (sets l 4 ts) (4 + n) (words_bytes m)) (take_all i ms (omega arith))

length-file_bytes : (f : ℕ) (ts ms : List ℕ) → length (file_bytes f ts ms) ≡ 4 + length ts + 2 * length ms
length-file_bytes f ts ms = omega (arith, length-append ts (words_bytes ms), length-words_bytes ms)

-- the counts and then the nodes
pub file-stored : (f : ℕ) (r ts ms : List ℕ) → length ts ≡ length ms → 4 + 3 * length ts ≤ length r
    → sets (sets (sets r 0 (word_bytes f ++ word_bytes (length ts))) 4 ts) (4 + length ts) (words_bytes ms) ≡ overlay (file_bytes f ts ms) r
file-stored f r ts ms e fits =
    sets-append ts (words_bytes ms) 4 (sets r 0 (word_bytes f ++ word_bytes (length ts)))
    ∙ sets-append (word_bytes f ++ word_bytes (length ts)) (ts ++ words_bytes ms) 0 r
    ∙ sets-front (file_bytes f ts ms) r (omega (arith, length-file_bytes f ts ms))
