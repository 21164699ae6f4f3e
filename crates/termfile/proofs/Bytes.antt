-- The bytes of a file and its nodes: a file of the right length is the file of its nodes, and the nodes of the file of these nodes are
-- these.
-- Assumes nothing.
use Prim.Native.Nat.{ℕ, suc, ◌+◌, ◌-◌, ◌*◌, ◌/◌, ◌%◌, ◌≤◌, ◌<◌}
use mathlib.Core.Path.{◌≡◌, refl, sym, ap, ap₂, ◌∙◌}
use mathlib.Core.List.{List, [], ◌∷◌, ◌++◌, map}
use native.Mathlib.Omega.{arith}
use lib.ListN.{length, get_or, drop, length-append, length-map, length-take, length-drop, take-append-drop}
use lib.Seq.{take_all, take_at, drop_at, drop-drop, get_or-drop}
use Rattle.termfile.specs.Nodes.{Node}
use Rattle.termfile.specs.File.{Bytes, word, words, free_names, node_count, tags, arguments, pairs, nodes}
use Rattle.termfile.specs.Canonical.{words_bytes, file_of}

-- Words of two bytes

word_low : (a b : ℕ) → a < 256 → word a b % 256 ≡ a
word_low a b h = omega arith

word-high : (a b : ℕ) → a < 256 → word a b / 256 ≡ b
word-high a b h = omega arith

word-word_bytes : (m : ℕ) → word (m % 256) (m / 256) ≡ m
word-word_bytes m = omega arith

-- bytes two by two are the bytes of their words
pub words_back : (l : List ℕ) (n : ℕ) → length l ≡ 2 * n → Bytes l → words_bytes (words l) ≡ l
words_back [] n e b = refl
words_back (x ∷ []) n e b = absurd (omega arith)
words_back (x ∷ y ∷ l) n e b =
    rw (word_low x y (b 0), word-high x y (b 0), words_back l (n - 1) (omega arith) (λ i. b (suc (suc i))))

pub length-words : (l : List ℕ) (n : ℕ) → length l ≡ 2 * n → length (words l) ≡ n
length-words [] n e = omega arith
length-words (x ∷ []) n e = absurd (omega arith)
length-words (x ∷ y ∷ l) n e = omega (arith, length-words l (n - 1) (omega arith))

pub words-words_bytes : (ms : List ℕ) → words (words_bytes ms) ≡ ms
words-words_bytes [] = refl
words-words_bytes (m ∷ ms) = ap₂ ◌∷◌ (word-word_bytes m) (words-words_bytes ms)

pub words_bytes-append : (ms ns : List ℕ) → words_bytes (ms ++ ns) ≡ words_bytes ms ++ words_bytes ns
words_bytes-append [] ns = refl
words_bytes-append (m ∷ ms) ns = ap (λ l. m % 256 ∷ m / 256 ∷ l) (words_bytes-append ms ns)

pub length-words_bytes : (ms : List ℕ) → length (words_bytes ms) ≡ 2 * length ms
length-words_bytes [] = refl
length-words_bytes (m ∷ ms) = omega (arith, length-words_bytes ms)

-- Nodes as two lists

pub tags-pairs : (ts ms : List ℕ) → length ts ≡ length ms → map (λ n. n.tag) (pairs ts ms) ≡ ts
tags-pairs [] ms e = refl
tags-pairs (t ∷ ts) [] e = absurd (omega arith)
tags-pairs (t ∷ ts) (m ∷ ms) e = ap (λ l. t ∷ l) (tags-pairs ts ms (omega arith))

arguments-pairs : (ts ms : List ℕ) → length ts ≡ length ms → map (λ n. n.argument) (pairs ts ms) ≡ ms
arguments-pairs [] [] e = refl
arguments-pairs [] (m ∷ ms) e = absurd (omega arith)
arguments-pairs (t ∷ ts) [] e = absurd (omega arith)
arguments-pairs (t ∷ ts) (m ∷ ms) e = ap (λ l. m ∷ l) (arguments-pairs ts ms (omega arith))

pairs-back : (ns : List Node) → pairs (map (λ n. n.tag) ns) (map (λ n. n.argument) ns) ≡ ns
pairs-back [] = refl
pairs-back (node ∷ ns) = ap (λ l. node ∷ l) (pairs-back ns)

-- From a file to its nodes and back

header : (s : List ℕ) → 4 ≤ length s → get_or s 0 0 ∷ get_or s 1 0 ∷ get_or s 2 0 ∷ get_or s 3 0 ∷ drop 4 s ≡ s
header [] h = absurd (omega arith)
header (a ∷ []) h = absurd (omega arith)
header (a ∷ b ∷ []) h = absurd (omega arith)
header (a ∷ b ∷ c ∷ []) h = absurd (omega arith)
header (a ∷ b ∷ c ∷ d ∷ s) h = refl

-- the bytes behind the tags
abbrev pub behind : List ℕ → List ℕ
behind s = drop (4 + node_count s) s

tags_behind : (s : List ℕ) → tags s ++ behind s ≡ drop 4 s
tags_behind s = rw (← drop-drop) (take-append-drop (node_count s) (drop 4 s))

module _ (s : List ℕ) (exact : length s ≡ 4 + 3 * node_count s) where
  pub length-tags : length (tags s) ≡ node_count s
  length-tags = simp (length-take, length-drop) (omega arith)

  pub length-behind : length (behind s) ≡ 2 * node_count s
  length-behind = simp length-drop (omega arith)

  pub arguments_behind : arguments s ≡ words (behind s)
  arguments_behind = ap words (take_all (2 * node_count s) (behind s) (omega (arith, length-behind)))

  pub length-arguments : length (arguments s) ≡ node_count s
  length-arguments = ap length arguments_behind ∙ length-words (behind s) (node_count s) length-behind

  pub tags-nodes : map (λ n. n.tag) (nodes s) ≡ tags s
  tags-nodes = tags-pairs (tags s) (arguments s) (length-tags ∙ sym length-arguments)

  arguments-nodes : map (λ n. n.argument) (nodes s) ≡ arguments s
  arguments-nodes = arguments-pairs (tags s) (arguments s) (length-tags ∙ sym length-arguments)

  pub length-nodes : length (nodes s) ≡ node_count s
  length-nodes = sym (length-map (nodes s) (λ n. n.tag)) ∙ ap length tags-nodes ∙ length-tags

  words_bytes-nodes : Bytes s → words_bytes (map (λ n. n.argument) (nodes s)) ≡ behind s
  words_bytes-nodes b =
      rw (arguments-nodes, arguments_behind)
      (words_back (behind s) (node_count s) length-behind (λ i. rw get_or-drop (b (4 + node_count s + i))))

  -- a file is the file of its nodes
  pub file_back : Bytes s → file_of (free_names s) (nodes s) ≡ s
  file_back b =
      rw (length-nodes, tags-nodes, words_bytes-nodes b, tags_behind s)
      (rw (word_low _ _ (b 0), word-high _ _ (b 0), word_low _ _ (b 2), word-high _ _ (b 2))
      (header s (omega arith)))

-- From nodes to their file and back

pub free_names-file_of : (f : ℕ) (ns : List Node) → free_names (file_of f ns) ≡ f
free_names-file_of f ns = word-word_bytes f

pub node_count-file_of : (f : ℕ) (ns : List Node) → node_count (file_of f ns) ≡ length ns
node_count-file_of f ns = word-word_bytes (length ns)

pub length-file_of : (f : ℕ) (ns : List Node) → length (file_of f ns) ≡ 4 + 3 * length ns
length-file_of f ns = simp (length-append, length-words_bytes, length-map) (omega arith)

pub tags-file_of : (f : ℕ) (ns : List Node) → tags (file_of f ns) ≡ map (λ n. n.tag) ns
tags-file_of f ns = rw (node_count-file_of f ns) (take_at _ _ (length ns) (length-map ns (λ n. n.tag)))

arguments-file_of : (f : ℕ) (ns : List Node) → arguments (file_of f ns) ≡ map (λ n. n.argument) ns
arguments-file_of f ns =
    let ms : List ℕ = map (λ n. n.argument) ns in
    let tail : drop (4 + length ns) (file_of f ns) ≡ words_bytes ms = rw (← drop-drop) (drop_at (map (λ n. n.tag) ns) (words_bytes ms) (length ns) (length-map ns (λ n. n.tag))) in
    rw (node_count-file_of f ns, tail, take_all (2 * length ns) (words_bytes ms) (simp (length-words_bytes, length-map) (omega arith)))
    (words-words_bytes ms)

pub nodes-file_of : (f : ℕ) (ns : List Node) → nodes (file_of f ns) ≡ ns
nodes-file_of f ns = ap₂ pairs (tags-file_of f ns) (arguments-file_of f ns) ∙ pairs-back ns
