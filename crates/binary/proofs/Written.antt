-- What was read is what is written. A place says which bits lead to it, and how many nodes they have; a term that ends there leads on to a
-- place, or to the whole, after its own bits too. So by induction on the bits: those that lead to a place, what has been read of a node, and
-- those that are still to be read are the bits of the term that is read and those behind it.
-- Assumes nothing.
use Prim.Native.Nat.{ℕ, suc, ◌+◌, ◌-◌, ◌≤◌, ◌<◌}
use mathlib.Core.Path.{◌≡◌, refl, sym, ap, subst₂}
use mathlib.Core.Bool.{Bool, true, false, cond, and-eq-true_iff}
use mathlib.Core.List.{List, [], ◌∷◌, ◌++◌, append_assoc}
use native.Mathlib.Nat.{zero-add}
use native.Mathlib.Numerals.{add-one}
use native.Mathlib.Omega.{arith}
use lib.Dec.{ltb}
use lib.ListN.{replicate}
use borrow.Author.Tests.{ltb-true, ltb-false}
use Rattle.fireball.specs.Term.{Term, free, bound, lam, app, LooseBelow, Whole, NamesBelow, size}
use Rattle.termfile.specs.File.{max_nodes}
use Rattle.binary.specs.Bits.{index, bits}
use Rattle.binary.specs.Reading.{Place, whole, body, left, right, depth, Next, done, part, ended, variable, Begun, nothing, a_zero, ones, Reading, unread, read, within, onward, reading}
use Rattle.binary.proofs.Ones.{replicate-snoc, index-append}

-- Places

-- the bits that lead to a place
abbrev before : Place → List Bool
before whole = []
before (body p) = before p ++ (false ∷ false ∷ [])
before (left p) = before p ++ (false ∷ true ∷ [])
before (right t p) = before p ++ (false ∷ true ∷ bits (depth p) t)

-- the nodes among them
abbrev nodes_before : Place → ℕ
nodes_before whole = 0
nodes_before (body p) = suc (nodes_before p)
nodes_before (left p) = suc (nodes_before p)
nodes_before (right t p) = suc (nodes_before p) + size t

-- the terms that are read already have their indices and names in range
abbrev Fits : ℕ → Place → Type 0
Fits f whole = Unit {0}
Fits f (body p) = Fits f p
Fits f (left p) = Fits f p
Fits f (right t p) = LooseBelow (depth p) t × NamesBelow f t × Fits f p

-- what is reached after n nodes with the bits bs: the end of the whole, or a place
data Reached (f : ℕ) (bs : List Bool) (n : ℕ) : Next → Type 0 where
  at_end : {t : Term} → bits 0 t ≡ bs → size t ≡ n → Whole t → NamesBelow f t → Reached f bs n (done t)
  at_place : {p : Place} → before p ≡ bs → nodes_before p ≡ n → Fits f p → Reached f bs n (part p)

ended-reached : (f : ℕ) (p : Place) (t : Term) → Fits f p → LooseBelow (depth p) t → NamesBelow f t
    → Reached f (before p ++ bits (depth p) t) (nodes_before p + size t) (ended p t)
ended-reached f whole t fits l g = at_end refl (sym (zero-add (size t))) l g
ended-reached f (body p) t fits l g =
    subst₂ (λ bs n. Reached f bs n (ended p (lam t))) (sym (append_assoc (before p) _ _)) (omega arith)
    (ended-reached f p (lam t) fits l g)
ended-reached f (left p) t fits l g = at_place {p = right t p} (sym (append_assoc (before p) _ _)) refl (l, g, fits)
ended-reached f (right t p) u fits l g =
    subst₂ (λ bs n. Reached f bs n (ended p (app t u))) (sym (append_assoc (before p) _ _)) (omega arith)
    (ended-reached f p (app t u) fits.2 (fits.0, l) (fits.1, g))

-- A variable

-- what the index k under m abstractions can be, where it is below m + f: a bound variable, or a free name below f
data Variable (f m k : ℕ) : Term → Type 0 where
  inside : k < m → Variable f m k (bound k)
  outside : (x : ℕ) → m + x ≡ k → x < f → Variable f m k (free x)

variable-is : (f m k : ℕ) → k < m + f → Variable f m k (variable m k)
variable-is f m k h = go (ltb k m) refl
  where
    go : (q : Bool) → ltb k m ≡ q → Variable f m k (cond q (bound k) (free (k - m)))
    go true e = inside (ltb-true k m e)
    go false e = let low = ltb-false k m e in outside (k - m) (omega arith) (omega arith)

variable-reached : {f k : ℕ} {t : Term} (p : Place) → Fits f p → Variable f (depth p) k t
    → Reached f (before p ++ index k) (suc (nodes_before p)) (ended p t)
variable-reached {f} {k} p fits (inside h) = rw (add-one (nodes_before p)) at (ended-reached f p (bound k) fits h tt)
variable-reached {f} p fits (outside x e h) = rw (add-one (nodes_before p), e) at (ended-reached f p (free x) fits tt h)

-- The bits that are read

-- what has been read of a node
abbrev begun : Begun → List Bool
begun nothing = []
begun a_zero = false ∷ []
begun (ones k) = true ∷ replicate k true

-- bs are the bits of t and then rest, and t is a term that a file with f free names can have
pub record Spells (f : ℕ) (t : Term) (rest bs : List Bool) : Type 0 where
  pub spelled : bs ≡ bits 0 t ++ rest
  pub closed : Whole t
  pub names : NamesBelow f t
  pub nodes : size t ≤ max_nodes

-- what a reading that comes to a term has passed
unread-read : {k : ℕ} {t : Term} {rest : List Bool} → unread k ≡ read t rest → ⊥
unread-read e = let z : ◌≡◌ {A = ℕ} 0 1 = cc in omega arith

within-read : (q : Bool) (r : Reading) (t : Term) (rest : List Bool) → within q r ≡ read t rest → (q ≡ true) × (r ≡ read t rest)
within-read true r t rest e = (refl, e)
within-read false r t rest e = absurd (unread-read e)

-- where what is read from a place on spells, so does the whole
onward-spells : {f n : ℕ} {l : List Bool} {o : Next} (t : Term) (rest bs : List Bool) → Reached f l n o → n ≤ max_nodes
    → onward o bs (λ q. reading f nothing q n bs) ≡ read t rest
    → ((q : Place) → Fits f q → reading f nothing q (nodes_before q) bs ≡ read t rest → Spells f t rest (before q ++ bs))
    → Spells f t rest (l ++ bs)
onward-spells {f} {l = l} t rest bs (at_end {t = u} e c w g) h r later =
    let term : u ≡ t = cc in
    let behind : bs ≡ rest = cc in
    subst₂ (λ v k. Spells f v k (l ++ bs)) term behind
    (record { spelled = ap (λ k. k ++ bs) (sym e); closed = w; names = g; nodes = omega arith })
onward-spells t rest bs (at_place {p = q} e c fits) h r later = rw e at (later q fits (rw c r))

reading-spells : (f : ℕ) (t : Term) (rest bs : List Bool) (b : Begun) (p : Place) → Fits f p → reading f b p (nodes_before p) bs ≡ read t rest
    → Spells f t rest (before p ++ (begun b ++ bs))
reading-spells f t rest [] b p fits e = absurd (unread-read e)
reading-spells f t rest (false ∷ bs) nothing p fits e = reading-spells f t rest bs a_zero p fits e
reading-spells f t rest (true ∷ bs) nothing p fits e = reading-spells f t rest bs (ones 0) p fits e
reading-spells f t rest (false ∷ bs) a_zero p fits e =
    rw append_assoc at (reading-spells f t rest bs nothing (body p) fits (within-read (ltb (nodes_before p) max_nodes) _ t rest e).1)
reading-spells f t rest (true ∷ bs) a_zero p fits e =
    rw append_assoc at (reading-spells f t rest bs nothing (left p) fits (within-read (ltb (nodes_before p) max_nodes) _ t rest e).1)
reading-spells f t rest (true ∷ bs) (ones k) p fits e = rw (replicate-snoc true k bs) (reading-spells f t rest bs (ones (suc k)) p fits e)
reading-spells f t rest (false ∷ bs) (ones k) p fits e =
    let test = within-read _ _ t rest e in
    let both = (and-eq-true_iff (ltb (nodes_before p) max_nodes) (ltb k (depth p + f))).0 test.0 in
    let var = variable-is f (depth p) k (ltb-true _ _ both.1) in
    rw (← index-append k bs, ← append_assoc (before p) (index k) bs)
    (onward-spells t rest bs (variable-reached p fits var) (ltb-true _ _ both.0) test.1
    (λ q fit r. reading-spells f t rest bs nothing q fit r))

pub reading-is : (f : ℕ) (t : Term) (rest bs : List Bool) → reading f nothing whole 0 bs ≡ read t rest → Spells f t rest bs
reading-is f t rest bs e = reading-spells f t rest bs nothing whole tt e
