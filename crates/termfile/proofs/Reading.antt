-- Reading and writing nodes: what is written reads as the code that was written, and a node list that reads as a code is its writing;
-- the writing of a code has as many nodes of each tag as the code.
-- Assumes nothing.
use Prim.Native.Nat.{ℕ, zero, suc, ◌+◌, ◌≤◌, ◌<◌}
use mathlib.Core.Path.{◌≡◌, refl, sym, ap, ◌∙◌}
use mathlib.Core.Bool.{Bool, true, false, cond, ◌&&◌, and_assoc}
use mathlib.Core.List.{List, [], ◌∷◌, ◌++◌, map, append-nil, append_assoc, map-append}
use mathlib.Core.Option.{Option, none, some, none-ne-some, some-injective}
use native.Mathlib.Omega.{arith}
use lib.Dec.{eqb, leb}
use lib.ListN.{length, drop, length-append}
use borrow.Author.Tests.{eqb-true, eq-eqb}
use Rattle.termfile.specs.Code.{Code, var, abs, app, weigh, only, size, variables, abstractions, applications}
use Rattle.termfile.specs.Nodes.{Node, write, read_node, and_then, forest, single, read}
use Rattle.termfile.specs.File.{known, count}

-- Reading what was written

and_then-assoc : (a : Option (List Code)) (g h : List Code → Option (List Code)) → and_then (and_then a g) h ≡ and_then a (λ cs. and_then (g cs) h)
and_then-assoc none g h = refl
and_then-assoc (some cs) g h = refl

-- a code's writing puts the code in front of what stands behind it
pub forest-write : (c : Code) (ns : List Node) → forest (write c ++ ns) ≡ and_then (forest ns) (λ cs. some (c ∷ cs))
forest-write (var x) ns = refl
forest-write (abs x c) ns = rw (forest-write c ns) (and_then-assoc (forest ns) _ _)
forest-write (app c d) ns =
    rw (append_assoc (write c) (write d) ns, forest-write c (write d ++ ns), forest-write d ns)
    (simp (and_then-assoc, eq-eqb (size c) (size c) refl))

pub read-write : (c : Code) → read (write c) ≡ some c
read-write c = ap single (ap forest (sym (append-nil (write c))) ∙ forest-write c [])

-- Writing what was read

abbrev pub writes : List Code → List Node
writes [] = []
writes (c ∷ cs) = write c ++ writes cs

-- a node read before the codes ds is the first of the writing of what it gives
node-is : (t m : ℕ) (ds cs : List Code) → read_node t m ds ≡ some cs → record { tag = t; argument = m } ∷ writes ds ≡ writes cs
node-is zero m ds cs e = ap writes (some-injective _ _ e)
node-is (suc zero) m [] cs e = absurd (none-ne-some cs e)
node-is (suc zero) m (d ∷ ds) cs e = ap writes (some-injective _ _ e)
node-is (suc (suc zero)) m [] cs e = absurd (none-ne-some cs e)
node-is (suc (suc zero)) m (d ∷ []) cs e = absurd (none-ne-some cs e)
node-is (suc (suc zero)) m (c ∷ d ∷ ds) cs e = go (eqb m (size c)) refl e
  where
    go : (q : Bool) → eqb m (size c) ≡ q → cond q (some (app c d ∷ ds)) none ≡ some cs
        → record { tag = 2; argument = m } ∷ (write c ++ (write d ++ writes ds)) ≡ writes cs
    go true p r = rw (eqb-true m (size c) p, ← append_assoc) (ap writes (some-injective _ _ r))
    go false p r = absurd (none-ne-some cs r)
node-is (suc (suc (suc t))) m ds cs e = absurd (none-ne-some cs e)

-- nodes that read as these codes are their writing
pub forest-is : (ns : List Node) (cs : List Code) → forest ns ≡ some cs → ns ≡ writes cs
forest-is [] cs e = ap writes (some-injective [] cs e)
forest-is (node ∷ ns) cs e = go (forest ns) (forest-is ns) e
  where
    go : (a : Option (List Code)) → ((ds : List Code) → a ≡ some ds → ns ≡ writes ds)
        → and_then a (read_node node.tag node.argument) ≡ some cs → node ∷ ns ≡ writes cs
    go none h q = absurd (none-ne-some cs q)
    go (some ds) h q = ap (λ l. node ∷ l) (h ds refl) ∙ node-is node.tag node.argument ds cs q

pub read_is : (ns : List Node) (c : Code) → read ns ≡ some c → ns ≡ write c
read_is ns c e = go (forest ns) (forest-is ns) e
  where
    go : (a : Option (List Code)) → ((ds : List Code) → a ≡ some ds → ns ≡ writes ds) → single a ≡ some c → ns ≡ write c
    go none h q = absurd (none-ne-some c q)
    go (some []) h q = absurd (none-ne-some c q)
    go (some (d ∷ [])) h q = h (d ∷ []) refl ∙ append-nil (write d) ∙ ap write (some-injective d c q)
    go (some (d ∷ e ∷ ds)) h q = absurd (none-ne-some c q)

-- where the nodes from some place on do not read, the whole does not
pub forest-none : (ns : List Node) (i : ℕ) → forest (drop i ns) ≡ none → forest ns ≡ none
forest-none [] zero e = e
forest-none [] (suc i) e = e
forest-none (node ∷ ns) zero e = e
forest-none (node ∷ ns) (suc i) e = rw (forest-none ns i e)

-- Counting what was written

pub length-write : (c : Code) → length (write c) ≡ size c
length-write (var x) = refl
length-write (abs x c) = omega (arith, length-write c)
length-write (app c d) = omega (arith, length-write c, length-write d, length-append (write c) (write d))

pub size-pos : (c : Code) → 0 < size c
size-pos (var x) = omega arith
size-pos (abs x c) = omega arith
size-pos (app c d) = omega arith

-- the nodes of a code are its variables, abstractions and applications, and one more is a variable than an application
pub size_counts : (c : Code) → size c ≡ variables c + abstractions c + applications c
size_counts (var x) = refl
size_counts (abs x c) = omega (arith, size_counts c)
size_counts (app c d) = omega (arith, size_counts c, size_counts d)

pub variables-applications : (c : Code) → variables c ≡ applications c + 1
variables-applications (var x) = refl
variables-applications (abs x c) = omega (arith, variables-applications c)
variables-applications (app c d) = omega (arith, variables-applications c, variables-applications d)

-- a code has no more nodes of one tag than nodes
pub only-le : (k t : ℕ) → only k t ≤ 1
only-le k t = go (eqb t k)
  where
    go : (q : Bool) → cond q 1 0 ≤ 1
    go true = omega arith
    go false = omega arith

pub weigh-only-le : (k : ℕ) (c : Code) → weigh (only k) c ≤ size c
weigh-only-le k (var x) = only-le k 0
weigh-only-le k (abs x c) = omega (arith, only-le k 1, weigh-only-le k c)
weigh-only-le k (app c d) = omega (arith, only-le k 2, weigh-only-le k c, weigh-only-le k d)

count-append : (k : ℕ) (l m : List ℕ) → count k (l ++ m) ≡ count k l + count k m
count-append k [] m = omega arith
count-append k (t ∷ l) m = omega (arith, count-append k l m)

-- the nodes of each tag are those of the code
pub count-write : (k : ℕ) (c : Code) → count k (map (λ n. n.tag) (write c)) ≡ weigh (only k) c
count-write k (var x) = omega arith
count-write k (abs x c) = rw (count-write k c)
count-write k (app c d) = rw (map-append (λ n. n.tag) (write c) (write d), count-append k) (rw (count-write k c, count-write k d) (omega arith))

known-append : (l m : List ℕ) → known (l ++ m) ≡ (known l && known m)
known-append [] m = refl
known-append (t ∷ l) m = rw (known-append l m) (sym (and_assoc (leb t 2) (known l) (known m)))

-- the tags written are known
pub known-write : (c : Code) → known (map (λ n. n.tag) (write c)) ≡ true
known-write (var x) = refl
known-write (abs x c) = known-write c
known-write (app c d) = rw (map-append (λ n. n.tag) (write c) (write d), known-append, known-write c) (known-write d)
