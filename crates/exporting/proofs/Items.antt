-- The parts of a term that a walk over its nodes has before it, and what the arrays know of them. The idea: an abstraction that is passed has
-- its level stored under its number, so that the index of a variable is the difference of two levels.
-- Assumes nothing.
use Prim.Native.Nat.{ℕ, suc, ◌+◌, ◌-◌, ◌≤◌, ◌<◌}
use mathlib.Core.Path.{◌≡◌, refl, sym, ap, ◌∙◌}
use mathlib.Core.Bool.{Bool, true, false, cond, ◌||◌, false≢true}
use mathlib.Core.List.{List, [], ◌∷◌, ◌++◌}
use native.Mathlib.Omega.{arith}
use lib.Dec.{eqb, ltb}
use lib.ListN.{length, get_or, set}
use lib.Seq.{get_or-set_other}
use borrow.Author.Tests.{eqb-true, ne_eqb, ltb-true, le-ltb}
use Rattle.fireball.specs.Term.{free, bound}
use Rattle.termfile.specs.Code.{Code, var, abstractions, numbered, member, scoped}
use Rattle.termfile.specs.Meaning.{outward, meaning}
use Rattle.termfile.specs.Nodes.{Node, write}
use Rattle.termfile.proofs.Naming.{values}
use Rattle.binary.specs.Bits.{index, bits}
use Rattle.exporting.specs.Measuring.{index_of, Indexable}

-- a code that is still to be passed, with the names of the abstractions around it, innermost first
pub data Item : Type 0 where
  part : (around : List ℕ) (code : Code) → Item

-- the nodes, and the bits, of the codes that are to be passed
abbrev pub nodes_of : List Item → List Node
nodes_of [] = []
nodes_of (part ys c ∷ todo) = write c ++ nodes_of todo

abbrev pub bits_of : List Item → List Bool
bits_of [] = []
bits_of (part ys c ∷ todo) = bits (length ys) (meaning (values ys) c) ++ bits_of todo

-- how many abstractions are around each
abbrev pub depths_of : List Item → List ℕ
depths_of [] = []
depths_of (part ys c ∷ todo) = length ys ∷ depths_of todo

pub length-depths : (todo : List Item) → length (depths_of todo) ≡ length todo
length-depths [] = refl
length-depths (part ys c ∷ todo) = ap suc (length-depths todo)

-- the names in a list are from f on and below `low`, and the level of each is stored
abbrev pub Levels : ℕ → List ℕ → ℕ → List ℕ → Type 0
Levels f ls low [] = Unit {0}
Levels f ls low (y ∷ ys) = (f ≤ y) × (y < low) × (get_or ls (y - f) 0 ≡ length ys) × Levels f ls low ys

pub record Good (f : ℕ) (ls : List ℕ) (low name : ℕ) (ys : List ℕ) (c : Code) : Type 0 where
  pub levels_are : Levels f ls low ys
  pub few : length ys + f ≤ low
  pub in_order : numbered name c ≡ true
  pub in_scope : scoped f ys c ≡ true

-- the codes are numbered one behind the other
abbrev pub Items : ℕ → List ℕ → ℕ → ℕ → List Item → Type 0
Items f ls low name [] = Unit {0}
Items f ls low name (part ys c ∷ todo) = Good f ls low name ys c × Items f ls low (name + abstractions c) todo

-- A level stored for the next name leaves the others

pub levels-set : (f : ℕ) (ls : List ℕ) (low v : ℕ) (ys : List ℕ) → f ≤ low → Levels f ls low ys → Levels f (set ls (low - f) v) (suc low) ys
levels-set f ls low v [] h l = tt
levels-set f ls low v (y ∷ ys) h l =
    (l.0, omega (arith, l.1), get_or-set_other ls (low - f) (y - f) v 0 (λ e. omega (arith, l.0, l.1)) ∙ l.2, levels-set f ls low v ys h l.3)

pub items-set : (f : ℕ) (ls : List ℕ) (low name v : ℕ) (todo : List Item) → f ≤ low → Items f ls low name todo
    → Items f (set ls (low - f) v) (suc low) name todo
items-set f ls low name v [] h g = tt
items-set f ls low name v (part ys c ∷ todo) h g = (
  record {
    levels_are = levels-set f ls low v ys h g.0.levels_are;
    few = omega (arith, g.0.few);
    in_order = g.0.in_order;
    in_scope = g.0.in_scope;
  },
  items-set f ls low (name + abstractions c) v todo h g.1,
)

-- The index of a variable

module _ (f : ℕ) (ls : List ℕ) (low x : ℕ) where
  -- a free name is bound nowhere
  values-free : (ys : List ℕ) → Levels f ls low ys → x < f → values ys x ≡ free x
  values-free [] l h = refl
  values-free (y ∷ ys) l h =
      ap (λ q. cond q (bound 0) (outward (values ys x))) (ne_eqb x y (λ e. omega (arith, l.0))) ∙ ap outward (values-free ys l.3 h)

  -- any other is bound at its level
  record At (ys : List ℕ) : Type 0 where
    value : values ys x ≡ bound (length ys - 1 - get_or ls (x - f) 0)
    below : get_or ls (x - f) 0 < length ys
    known : (f ≤ x) × (x < low)

  values-bound : (ys : List ℕ) → Levels f ls low ys → member x ys ≡ true → At ys
  values-bound [] l m = absurd (false≢true m)
  values-bound (y ∷ ys) l m = go (eqb x y) refl (λ e. values-bound ys l.3 e) m
    where
      go : (q : Bool) → eqb x y ≡ q → (member x ys ≡ true → At ys) → (q || member x ys) ≡ true → At (y ∷ ys)
      go true e rest h =
          let same = eqb-true x y e in
          let level : get_or ls (x - f) 0 ≡ length ys = ap (λ z. get_or ls (z - f) 0) same ∙ l.2 in
          record {
            value = ap (λ q. cond q (bound 0) (outward (values ys x))) e ∙ ap bound (omega (arith, level));
            below = omega (arith, level);
            known = (omega (arith, l.0), omega (arith, l.1));
          }
      go false e rest h =
          let r = rest h in
          record {
            value =
                ap (λ q. cond q (bound 0) (outward (values ys x))) e ∙ ap outward r.value
                ∙ ap bound (omega (arith, r.below));
            below = omega (arith, r.below);
            known = r.known;
          }

  -- so the bits of the name are those of its index
  pub bits-variable : (ys : List ℕ) → Levels f ls low ys → scoped f ys (var x) ≡ true → bits (length ys) (values ys x) ≡ index (index_of ls f (length ys) x)
  bits-variable ys l s = go (ltb x f) refl s
    where
      go : (q : Bool) → ltb x f ≡ q → (q || member x ys) ≡ true
          → bits (length ys) (values ys x) ≡ index (cond q (length ys + x) (length ys - 1 - get_or ls (x - f) 0))
      go true e h = ap (bits (length ys)) (values-free ys l (ltb-true x f e))
      go false e h = ap (bits (length ys)) (values-bound ys l h).value

  pub indexable : (ys : List ℕ) → Levels f ls low ys → scoped f ys (var x) ≡ true → length ys ≤ 16384 → f ≤ 16384 → low ≤ f + length ls
      → Indexable f ls (length ys) x
  indexable ys l s few_deep few_free low-known =
      record {
        few_deep = few_deep;
        few_free = few_free;
        level_known = λ h. omega (arith, (at h).known.1);
        level_below = λ h. (at h).below;
      }
    where
      at : f ≤ x → At ys
      at h = values-bound ys l (ap (λ q. q || member x ys) (sym (le-ltb x f h)) ∙ s)

-- an index in range has 15 bits
pub index-few : (f : ℕ) (ls : List ℕ) (m x : ℕ) → Indexable f ls m x → index_of ls f m x ≤ 32767
index-few f ls m x h = go (ltb x f) refl
  where
    go : (q : Bool) → ltb x f ≡ q → cond q (m + x) (m - 1 - get_or ls (x - f) 0) ≤ 32767
    go true e = omega (arith, ltb-true x f e, h.few_deep, h.few_free)
    go false e = omega (arith, h.few_deep)
