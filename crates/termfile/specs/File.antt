-- The bytes of a term file, and the refusals 1 to 7. Letters: s is a list of bytes, f the count of free names, n that of nodes.
use Rattle.std.specs.Prelude.{ℕ, ◌+◌, ◌*◌, ◌<◌, Bool, true, false, ◌&&◌, List, [], ◌∷◌, eqb, leb, length, get_or, take, drop}
use Rattle.std.proofs.Math.Option.{Option, none, some}
use Rattle.fireball.specs.Term.{Term}
use Rattle.termfile.specs.Code.{Code, var, numbered, scoped, only}
use Rattle.termfile.specs.Meaning.{term_of}
use Rattle.termfile.specs.Nodes.{Node, read}
use Rattle.termfile.specs.declared.Counts.{Counts}

-- each number of the list is a byte
abbrev pub Bytes : List ℕ → Type 0
Bytes s = (i : ℕ) → get_or s i 0 < 256

-- 01, The term file: "Limits: f from 0 to 16,384; n from 1 to 16,384"
abbrev pub max_free : ℕ
max_free = 16384

abbrev pub max_nodes : ℕ
max_nodes = 16384

-- "All numbers are little endian, 16 bits wide": the number of two bytes; those of a list of bytes, two by two
abbrev pub word : ℕ → ℕ → ℕ
word low high = low + 256 * high

abbrev pub words : List ℕ → List ℕ
words [] = []
words (low ∷ []) = []
words (low ∷ high ∷ s) = word low high ∷ words s

-- "Sizes come first: f, the count of free names, then n, the count of nodes"
abbrev pub free_names : List ℕ → ℕ
free_names s = word (get_or s 0 0) (get_or s 1 0)

abbrev pub node_count : List ℕ → ℕ
node_count s = word (get_or s 2 0) (get_or s 3 0)

-- "Two parallel arrays follow: n tag bytes, then n arguments of 16 bits"
abbrev pub tags : List ℕ → List ℕ
tags s = take (node_count s) (drop 4 s)

abbrev pub arguments : List ℕ → List ℕ
arguments s = words (take (2 * node_count s) (drop (4 + node_count s) s))

abbrev pub pairs : List ℕ → List ℕ → List Node
pairs [] ms = []
pairs (t ∷ ts) [] = []
pairs (t ∷ ts) (m ∷ ms) = record { tag = t; argument = m } ∷ pairs ts ms

abbrev pub nodes : List ℕ → List Node
nodes s = pairs (tags s) (arguments s)

-- the code that a file's nodes stand for, if they stand for one
abbrev pub code_of : List ℕ → Option Code
code_of s = read (nodes s)

-- the code of an accepted file; the variable stands in for what no other file has
abbrev pub code_from : Option Code → Code
code_from none = var 0
code_from (some c) = c

abbrev pub file_code : List ℕ → Code
file_code s = code_from (code_of s)

-- the term that an accepted file stands for
abbrev pub file_term : List ℕ → Term
file_term s = term_of (file_code s)

abbrev pub known : List ℕ → Bool
known [] = true
known (t ∷ ts) = leb t 2 && known ts

abbrev pub holds : (Code → Bool) → Option Code → Bool
holds p none = false
holds p (some c) = p c

-- what a test that fails is answered with, and else the tests after it
abbrev pub unless : Bool → ℕ → Option ℕ → Option ℕ
unless true k rest = rest
unless false k rest = some k

-- 01, Numbered answers: what has to hold for rows 1 to 7 of the table not to refuse a file
-- 1: "fewer than 4 bytes"
abbrev pub long_enough : List ℕ → Bool
long_enough s = leb 4 (length s)

-- 2: "f or n outside its limits"
abbrev pub in_limits : List ℕ → Bool
in_limits s = leb (free_names s) max_free && (leb 1 (node_count s) && leb (node_count s) max_nodes)

-- 3: "length is not 4 + 3 times n"
abbrev pub exact_length : List ℕ → Bool
exact_length s = eqb (length s) (4 + 3 * node_count s)

-- 4: "a tag above 2"
abbrev pub tags_known : List ℕ → Bool
tags_known s = known (tags s)

-- 5: "the tags are not one whole term using all n nodes, or an application's argument is not its left part's size"
abbrev pub one_term : List ℕ → Bool
one_term s = holds (λ c. true) (code_of s)

-- 6: "an abstraction binds another name than its place gives"
abbrev pub binders_in_place : List ℕ → Bool
binders_in_place s = holds (numbered (free_names s)) (code_of s)

-- 7: "a variable neither free nor bound around it"
abbrev pub variables_in_scope : List ℕ → Bool
variables_in_scope s = holds (scoped (free_names s) []) (code_of s)

-- "Refusals 1 to 7 are tested in this order, each over the whole file before the next."
unfoldable pub refusal : List ℕ → Option ℕ
refusal s =
    unless (long_enough s) 1
    (unless (in_limits s) 2
    (unless (exact_length s) 3
    (unless (tags_known s) 4
    (unless (one_term s) 5
    (unless (binders_in_place s) 6
    (unless (variables_in_scope s) 7
    none))))))

-- the number of nodes with the tag k in a list of tags
abbrev pub count : ℕ → List ℕ → ℕ
count k [] = 0
count k (t ∷ ts) = only k t + count k ts

-- what is told of an accepted file: f, n, and of its nodes the abstractions (tag 1), the variables (tag 0: V) and the applications (tag 2: A)
abbrev pub counts : List ℕ → Counts
counts s =
    record {
      free = free_names s;
      nodes = node_count s;
      abstractions = count 1 (tags s);
      variables = count 0 (tags s);
      applications = count 2 (tags s);
    }
