-- The nodes up to a place: how many they are, and how they go on where a term ends there. The idea: a term that ends is the last part of the
-- term around it, up to an application whose left part it ends, which is the top of the open ones, or to the whole.
-- Assumes nothing.
use Prim.Native.Nat.{ℕ, suc, ◌+◌, ◌≤◌, ◌<◌}
use mathlib.Core.Path.{◌≡◌, refl, sym, ap, ◌∙◌}
use mathlib.Core.List.{List, [], ◌∷◌, ◌++◌, map, map-append, append_assoc}
use native.Mathlib.Omega.{arith}
use native.Mathlib.Numerals.{add-one}
use lib.ListN.{length, take, set, length-append}
use lib.Seq.{take-suc-set}
use Rattle.fireball.specs.Term.{Term, free, bound, lam, app, size}
use Rattle.termfile.specs.Nodes.{Node}
use Rattle.termfile.specs.Canonical.{binders, naming, canonical}
use Rattle.termfile.proofs.Naming.{naming-size}
use Rattle.termfile.proofs.Reading.{length-write}
use Rattle.binary.specs.Stacks.{Stacked}
use Rattle.binary.specs.Reading.{Place, whole, body, left, right, depth, Next, done, part, ended}
use Rattle.importing.specs.Holding.{next_name, around, nodes_of, nodes_to, open_at}

-- Nodes

-- one more node behind those that an array holds, by its tag or its argument
pub laid_more : (g : Node → ℕ) (l : List ℕ) (ns : List Node) (x : Node) (n v : ℕ) → n < length l → take n l ≡ map g ns → v ≡ g x
    → take (n + 1) (set l n v) ≡ map g (ns ++ (x ∷ []))
laid_more g l ns x n v h e w =
    ap (λ k. take k (set l n v)) (add-one n) ∙ take-suc-set l n v h ∙ ap (λ m. m ++ (v ∷ [])) e ∙ ap (λ y. map g ns ++ (y ∷ [])) w
    ∙ sym (map-append g ns (x ∷ []))

-- Places

module _ (f : ℕ) where
  pub around_depth : (p : Place) → length (around f p) ≡ depth p
  around_depth whole = refl
  around_depth (body p) = ap suc (around_depth p)
  around_depth (left p) = around_depth p
  around_depth (right t p) = around_depth p

  binders-few : (t : Term) → binders t ≤ size t
  binders-few (free x) = omega arith
  binders-few (bound i) = omega arith
  binders-few (lam t) = omega (arith, binders-few t)
  binders-few (app t u) = omega (arith, binders-few t, binders-few u)

  pub nodes-size : (p : Place) (t : Term) → length (nodes_of f p t) ≡ size t
  nodes-size p t = length-write (naming (next_name f p) (around f p) t) ∙ naming-size t (next_name f p) (around f p)

  -- the nodes up to a place are at least as many as the abstractions around it, the open applications and the names bound so far
  pub record Few (p : Place) : Type 0 where
    pub deep : length (around f p) ≤ length (nodes_to f p)
    pub applications : length (open_at f p) ≤ length (nodes_to f p)
    pub names : next_name f p ≤ f + length (nodes_to f p)

  pub nodes_few : (p : Place) → Few p
  nodes_few whole = record { deep = omega arith; applications = omega arith; names = omega arith }
  nodes_few (body p) =
      let h = nodes_few p in
      let e = length-append (nodes_to f p) (record { tag = 1; argument = next_name f p } ∷ []) in
      record { deep = omega arith; applications = omega arith; names = omega arith }
  nodes_few (left p) =
      let h = nodes_few p in
      let e = length-append (nodes_to f p) (record { tag = 2; argument = depth p } ∷ []) in
      record { deep = omega arith; applications = omega arith; names = omega arith }
  nodes_few (right t p) =
      let h = nodes_few p in
      let e = length-append (nodes_to f p) (record { tag = 2; argument = size t } ∷ nodes_of f p t) in
      let b = binders-few t in
      let n = nodes-size p t in
      record { deep = omega arith; applications = omega arith; names = omega arith }

  -- Where a term ends

  -- the left part of the application at a place has ended, and q is its right part
  pub record Closes (p : Place) (t : Term) (q : Place) : Type 0 where
    pub left_part : Term
    pub place : Place
    pub is_right : q ≡ right left_part place
    pub nodes_are : nodes_to f p ++ nodes_of f p t ≡ nodes_to f place ++ (record { tag = 2; argument = depth place } ∷ nodes_of f place left_part)
    pub name_is : next_name f p + binders t ≡ next_name f place + binders left_part
    pub open_are : open_at f p ≡ length (nodes_to f place) ∷ open_at f place
    pub outer : (xs : List ℕ) → Stacked xs (around f p) → Stacked xs (around f place)

  abbrev pub Ends : Place → Term → Next → Type 0
  Ends p t (done u) = (nodes_to f p ++ nodes_of f p t ≡ canonical f u) × (open_at f p ≡ [])
  Ends p t (part q) = Closes p t q

  -- a term that ends is the last part of another that ends
  ends_with : (p q : Place) (t u : Term) (x : Next) → nodes_to f p ++ nodes_of f p t ≡ nodes_to f q ++ nodes_of f q u
      → next_name f p + binders t ≡ next_name f q + binders u → open_at f p ≡ open_at f q
      → ((xs : List ℕ) → Stacked xs (around f p) → Stacked xs (around f q)) → Ends q u x → Ends p t x
  ends_with p q t u (done v) ns names opens outer e = (ns ∙ e.0, opens ∙ e.1)
  ends_with p q t u (part r) ns names opens outer e =
      record {
        left_part = e.left_part;
        place = e.place;
        is_right = e.is_right;
        nodes_are = ns ∙ e.nodes_are;
        name_is = names ∙ e.name_is;
        open_are = opens ∙ e.open_are;
        outer = λ xs s. e.outer xs (outer xs s);
      }

  pub ended_is : (p : Place) (t : Term) → Ends p t (ended p t)
  ended_is whole t = (refl, refl)
  ended_is (body p) t =
      ends_with (body p) p t (lam t) (ended p (lam t))
      (append_assoc (nodes_to f p) (record { tag = 1; argument = next_name f p } ∷ []) (nodes_of f (body p) t)) (omega arith) refl (λ xs s. s.1)
      (ended_is p (lam t))
  ended_is (left p) t =
      record {
        left_part = t;
        place = p;
        is_right = refl;
        nodes_are = append_assoc (nodes_to f p) (record { tag = 2; argument = depth p } ∷ []) (nodes_of f p t);
        name_is = refl;
        open_are = refl;
        outer = λ xs s. s;
      }
  ended_is (right t p) u =
      ends_with (right t p) p u (app t u) (ended p (app t u))
      (append_assoc (nodes_to f p) (record { tag = 2; argument = size t } ∷ nodes_of f p t) (nodes_of f (right t p) u)
      ∙ ap (λ n. nodes_to f p ++ (record { tag = 2; argument = n } ∷ (nodes_of f p t ++ nodes_of f (right t p) u)))
      (sym (naming-size t (next_name f p) (around f p))))
      (omega arith) refl (λ xs s. s) (ended_is p (app t u))
