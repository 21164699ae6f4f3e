-- A numbered and scoped code with few enough names and nodes has a file: its numbers fit their bytes, it is accepted, and its code is
-- that code.
-- Assumes nothing.
use Prim.Native.Nat.{ℕ, zero, suc, ◌+◌, ◌≤◌, ◌<◌}
use mathlib.Core.Path.{◌≡◌, refl, ap, ◌∙◌}
use mathlib.Core.Bool.{Bool, true, false, ◌||◌, and-eq-true_iff, false≢true}
use mathlib.Core.List.{List, [], ◌∷◌, ◌++◌, map}
use mathlib.Core.Option.{some}
use native.Mathlib.Omega.{arith}
use lib.Dec.{eqb, ltb}
use lib.ListN.{length}
use borrow.Author.Tests.{eqb-true, ltb-true}
use Rattle.termfile.specs.Code.{Code, var, abs, app, size, abstractions, numbered, member, scoped}
use Rattle.termfile.specs.Nodes.{Node, write, read}
use Rattle.termfile.specs.File.{Bytes, max_free, max_nodes, code_of}
use Rattle.termfile.specs.Canonical.{words_bytes, file_of}
use Rattle.termfile.proofs.Reading.{read-write, length-write, size-pos, weigh-only-le, known-write}
use Rattle.termfile.proofs.Bytes.{free_names-file_of, node_count-file_of, length-file_of, tags-file_of, nodes-file_of}
use Rattle.termfile.proofs.Acceptance.{Accepted}

-- Nodes whose tags are bytes and whose arguments are words

abbrev pub Fits : List Node → Type 0
Fits [] = Unit {0}
Fits (node ∷ ns) = (node.tag < 256) × (node.argument < 65536) × Fits ns

fits-append : (l m : List Node) → Fits l → Fits m → Fits (l ++ m)
fits-append [] m p q = q
fits-append (node ∷ l) m p q = (p.0, p.1, fits-append l m p.2 q)

bytes-append : (l m : List ℕ) → Bytes l → Bytes m → Bytes (l ++ m)
bytes-append [] m p q i = q i
bytes-append (x ∷ l) m p q zero = p 0
bytes-append (x ∷ l) m p q (suc i) = bytes-append l m (λ j. p (suc j)) q i

bytes-tags : (ns : List Node) → Fits ns → Bytes (map (λ n. n.tag) ns)
bytes-tags [] p i = omega arith
bytes-tags (node ∷ ns) p zero = p.0
bytes-tags (node ∷ ns) p (suc i) = bytes-tags ns p.2 i

bytes-arguments : (ns : List Node) → Fits ns → Bytes (words_bytes (map (λ n. n.argument) ns))
bytes-arguments [] p i = omega arith
bytes-arguments (node ∷ ns) p zero = omega arith
bytes-arguments (node ∷ ns) p (suc zero) = omega arith
bytes-arguments (node ∷ ns) p (suc (suc i)) = bytes-arguments ns p.2 i

pub bytes-file_of : (f : ℕ) (ns : List Node) → f < 65536 → length ns < 65536 → Fits ns → Bytes (file_of f ns)
bytes-file_of f ns h g p zero = omega arith
bytes-file_of f ns h g p (suc zero) = omega arith
bytes-file_of f ns h g p (suc (suc zero)) = omega arith
bytes-file_of f ns h g p (suc (suc (suc zero))) = omega arith
bytes-file_of f ns h g p (suc (suc (suc (suc i)))) =
    bytes-append (map (λ n. n.tag) ns) (words_bytes (map (λ n. n.argument) ns)) (bytes-tags ns p) (bytes-arguments ns p) i

-- A code whose names and sizes are words

name_below : (x f k : ℕ) (around : List ℕ) → f ≤ k → ((y : ℕ) → member y around ≡ true → y < k) → (ltb x f || member x around) ≡ true → x < k
name_below x f k around h b s = go (ltb x f) refl s
  where
    go : (q : Bool) → ltb x f ≡ q → (q || member x around) ≡ true → x < k
    go true e r = omega (arith, ltb-true x f e)
    go false e r = b x r

-- binders are numbered from k on, free names are below f and those bound around the code below k
pub write-fits : (c : Code) (f k : ℕ) (around : List ℕ) → numbered k c ≡ true → scoped f around c ≡ true
    → f ≤ k → ((y : ℕ) → member y around ≡ true → y < k) → k + size c ≤ 65536 → Fits (write c)
write-fits (var x) f k around n s h b g = (omega arith, omega (arith, name_below x f k around h b s), tt)
write-fits (abs x c) f k around n s h b g =
    let m = (and-eq-true_iff (eqb x k) (numbered (suc k) c)).0 n in
    let e : x ≡ k = eqb-true x k m.0 in
    (omega arith, omega arith, write-fits c f (suc k) (x ∷ around) m.1 s (omega arith) (λ y r. within y e (eqb y x) refl r) (omega arith))
  where
    within : (y : ℕ) → x ≡ k → (q : Bool) → eqb y x ≡ q → (q || member y around) ≡ true → y < suc k
    within y e true p r = omega (arith, eqb-true y x p)
    within y e false p r = omega (arith, b y r)
write-fits (app c d) f k around n s h b g =
    let m = (and-eq-true_iff (numbered k c) (numbered (k + abstractions c) d)).0 n in
    let r = (and-eq-true_iff (scoped f around c) (scoped f around d)).0 s in
    let few = weigh-only-le 1 c in (
      omega arith,
      omega arith,
      fits-append (write c) (write d) (write-fits c f k around m.0 r.0 h b (omega arith))
          (write-fits d f (k + abstractions c) around m.1 r.1 (omega arith) (λ y q. omega (arith, b y q)) (omega arith)),
    )

-- The file of a code

pub file-code : (f : ℕ) (c : Code) → code_of (file_of f (write c)) ≡ some c
file-code f c = ap read (nodes-file_of f (write c)) ∙ read-write c

module _ (f : ℕ) (c : Code) (order : numbered f c ≡ true) (scope : scoped f [] c ≡ true) (few : f ≤ max_free) (small : size c ≤ max_nodes) where
  pub file-accepted : Accepted (file_of f (write c))
  file-accepted =
      record {
        code = c;
        is_code = file-code f c;
        in_order = rw (free_names-file_of f (write c)) order;
        in_scope = rw (free_names-file_of f (write c)) scope;
        long = omega (arith, length-file_of f (write c));
        free_limit = rw (free_names-file_of f (write c)) few;
        nodes_pos = rw (node_count-file_of f (write c), length-write c) (size-pos c);
        nodes_limit = rw (node_count-file_of f (write c), length-write c) small;
        exact = rw (node_count-file_of f (write c)) (length-file_of f (write c));
        known_tags = rw (tags-file_of f (write c)) (known-write c);
      }

  pub file-bytes : Bytes (file_of f (write c))
  file-bytes =
      bytes-file_of f (write c) (omega arith) (rw (length-write c) (omega arith))
      (write-fits c f f [] order scope (omega arith) (λ y m. absurd (false≢true m)) (omega arith))
