-- What measuring a term does at each node, and what it promises.
-- Letters: w is how far the walk is, ls are the levels of the abstractions by number, ds the depths of the right parts that are to come.
use Rattle.std.specs.Prelude.{ℕ, ◌+◌, ◌-◌, ◌*◌, ◌≤◌, ◌<◌, ◌≡◌, cond, List, ltb, length, get_or, take}
use Rattle.termfile.specs.Code.{Code}
use Rattle.termfile.specs.Meaning.{term_of}
use Rattle.termfile.specs.File.{tags}
use Rattle.binary.specs.Bits.{bits}
use Rattle.exporting.specs.Tokens.{tokens, Coded}
use Rattle.exporting.specs.declared.measuring.Walk.{Walk}

-- the index of the name x under m abstractions
abbrev pub index_of : List ℕ → ℕ → ℕ → ℕ → ℕ
index_of ls f m x = cond (ltb x f) (m + x) (m - 1 - get_or ls (x - f) 0)

-- behind a variable the innermost right part that is to come is next, or none is
abbrev pub passed_variable : List ℕ → Walk → ℕ → Walk
passed_variable ds w k =
    cond (ltb 0 w.pending) (record { depth = get_or ds (w.pending - 1) 0; pending = w.pending - 1; total = w.total + (k + 2) })
    (record { depth = w.depth; pending = w.pending; total = w.total + (k + 2) })

-- into an abstraction; and into the left part of an application
abbrev pub passed_abstraction : Walk → Walk
passed_abstraction w = record { depth = w.depth + 1; pending = w.pending; total = w.total + 2 }

abbrev pub passed_application : Walk → Walk
passed_application w = record { depth = w.depth; pending = w.pending + 1; total = w.total + 2 }

-- the numbers are small enough to be added to and to be kept in 16 bits
pub record Small (w : Walk) (most : ℕ) : Type 0 where
  pub depth_small : w.depth ≤ most
  pub pending_small : w.pending ≤ most
  pub total_small : w.total ≤ 32770 * most

-- the file stands for a code
pub record Measurable (s : List ℕ) (n f : ℕ) : Type 0 where
  pub code : Code
  pub coded : Coded s n f code

-- the number of bits, and an index for each variable, by which they are put
pub record Measures (s : List ℕ) (n : ℕ) (ks : List ℕ) (c : Code) (r : ℕ) : Type 0 where
  pub bits_are : tokens (tags s) (take n ks) ≡ bits 0 (term_of c)
  pub count : r ≡ length (bits 0 (term_of c))
  pub few : r ≤ 32770 * n

-- a name that is free, or that of an abstraction passed whose level is below the depth
pub record Indexable (f : ℕ) (ls : List ℕ) (m x : ℕ) : Type 0 where
  pub few_deep : m ≤ 16384
  pub few_free : f ≤ 16384
  pub level_known : f ≤ x → x - f < length ls
  pub level_below : f ≤ x → get_or ls (x - f) 0 < m
