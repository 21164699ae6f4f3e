-- Reading what was written. By induction on a term: where the bits of the term stand at a place, they are read to their end and lead on as
-- the term does there, with as many nodes read more as the term has. Its indices are below the abstractions around it, its names below f,
-- and its nodes within the limit, so no test on the way refuses.
-- Assumes nothing.
use Prim.Native.Nat.{ℕ, suc, ◌+◌, ◌≤◌, ◌<◌}
use mathlib.Core.Path.{◌≡◌, ap, ◌∙◌}
use mathlib.Core.Bool.{Bool, false, ◌&&◌}
use mathlib.Core.List.{List, ◌∷◌, ◌++◌, append_assoc}
use native.Mathlib.Numerals.{add-one}
use native.Mathlib.Omega.{arith}
use lib.Dec.{ltb}
use borrow.Author.Tests.{lt-ltb, le-ltb}
use Rattle.fireball.specs.Term.{Term, free, bound, lam, app, LooseBelow, Whole, NamesBelow, size}
use Rattle.termfile.specs.File.{max_nodes}
use Rattle.binary.specs.Bits.{index, bits}
use Rattle.binary.specs.Reading.{Place, whole, body, left, right, depth, ended, variable, nothing, Reading, read, within, onward, reading}
use Rattle.binary.proofs.Ones.{index-append, ones-read}

-- A variable

-- what the last bit of a variable with the index k leads to
abbrev pub at-index : ℕ → Place → ℕ → List Bool → ℕ → Reading
at-index f p n bs k =
    within (ltb n max_nodes && ltb k (depth p + f))
    (onward (ended p (variable (depth p) k)) bs (λ q. reading f nothing q (suc n) bs))

pub reading-index : (f : ℕ) (p : Place) (n : ℕ) (bs : List Bool) (k : ℕ) → reading f nothing p n (index k ++ bs) ≡ at-index f p n bs k
reading-index f p n bs k = ap (reading f nothing p n) (index-append k bs) ∙ ones-read f p n k (false ∷ bs)

variable-bound : (m k : ℕ) → k < m → variable m k ≡ bound k
variable-bound m k h = rw (lt-ltb k m h)

variable-free : (m x : ℕ) → variable m (m + x) ≡ free x
variable-free m x = rw (le-ltb (m + x) m (omega arith)) (ap free (omega arith))

-- an index that no test refuses
at-index-read : (f : ℕ) (p : Place) (n : ℕ) (bs : List Bool) (k : ℕ) (t : Term) → n < max_nodes → k < depth p + f → variable (depth p) k ≡ t
    → at-index f p n bs k ≡ onward (ended p t) bs (λ q. reading f nothing q (n + 1) bs)
at-index-read f p n bs k t h g e = rw (add-one n, lt-ltb n max_nodes h, lt-ltb k (depth p + f) g, e)

-- A term

-- the bits of a term at a place lead on as the term does
pub reading-bits : (f : ℕ) (t : Term) (p : Place) (n : ℕ) (bs : List Bool) → LooseBelow (depth p) t → NamesBelow f t → n + size t ≤ max_nodes
    → reading f nothing p n (bits (depth p) t ++ bs) ≡ onward (ended p t) bs (λ q. reading f nothing q (n + size t) bs)
reading-bits f (free x) p n bs l g h =
    reading-index f p n bs (depth p + x) ∙ at-index-read f p n bs (depth p + x) (free x) (omega arith) (omega arith) (variable-free (depth p) x)
reading-bits f (bound k) p n bs l g h =
    reading-index f p n bs k ∙ at-index-read f p n bs k (bound k) (omega arith) (omega arith) (variable-bound (depth p) k l)
reading-bits f (lam t) p n bs l g h =
    rw (lt-ltb n max_nodes (omega arith))
    (reading-bits f t (body p) (suc n) bs l g (omega arith) ∙ ap (λ k. onward (ended p (lam t)) bs (λ q. reading f nothing q k bs)) (omega arith))
reading-bits f (app t u) p n bs l g h =
    rw (lt-ltb n max_nodes (omega arith), append_assoc (bits (depth p) t) (bits (depth p) u) bs)
    (reading-bits f t (left p) (suc n) (bits (depth p) u ++ bs) l.0 g.0 (omega arith)
    ∙ reading-bits f u (right t p) (suc n + size t) bs l.1 g.1 (omega arith)
    ∙ ap (λ k. onward (ended p (app t u)) bs (λ q. reading f nothing q k bs)) (omega arith))

pub reading-whole : (f : ℕ) (t : Term) (bs : List Bool) → Whole t → NamesBelow f t → size t ≤ max_nodes → reading f nothing whole 0 (bits 0 t ++ bs) ≡ read t bs
reading-whole f t bs l g h = reading-bits f t whole 0 bs l g (omega arith)
