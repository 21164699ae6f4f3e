-- What putting a node, and closing a left part, leave in the arrays: from one place to the next. The idea: a node is put behind the others, a
-- name or an open application on top of a stack, and where a left part ends one store gives its application the part's size.
-- Assumes nothing.
use Prim.Native.Nat.{ℕ, suc, ◌+◌, ◌-◌, ◌≤◌, ◌<◌}
use mathlib.Core.Path.{◌≡◌, refl, sym, ap, ◌∙◌, subst}
use mathlib.Core.Bool.{Bool, true, false, cond}
use mathlib.Core.List.{List, [], ◌∷◌, ◌++◌, map, map-append}
use native.Mathlib.Omega.{arith}
use lib.Dec.{ltb}
use lib.ListN.{length, get_or, take, set, length-append, length-map}
use lib.Seq.{take-set-lt, get_or-take, get_or_at, set_at}
use borrow.Author.Tests.{ltb-true}
use Rattle.fireball.specs.Term.{Term, free, bound, size}
use Rattle.termfile.specs.Nodes.{Node}
use Rattle.termfile.specs.Canonical.{binders}
use Rattle.binary.specs.Reading.{Place, body, left, depth, part, ended, variable}
use Rattle.binary.specs.Stacks.{Stacked}
use Rattle.binary.proofs.Stacks.{stacked-push, stacked-at}
use Rattle.importing.specs.Holding.{next_name, around, nodes_of, nodes_to, open_at, Holds, Ready, name_of}
use Rattle.importing.proofs.Holding.{laid_more, around_depth, nodes-size, nodes_few, Closes, Ends, ended_is}
use Rattle.importing.specs.declared.placing.Spot.{Spot}

-- `Before` and `After` of four arrays
abbrev pub HoldsTo : ℕ → Place → Spot → List ℕ → List ℕ → List ℕ → List ℕ → Type 0
HoldsTo f p st ts ms xs ys = Holds f p (nodes_to f p) (next_name f p) st ts ms xs ys

abbrev pub HoldsPast : ℕ → Place → Term → Spot → List ℕ → List ℕ → List ℕ → List ℕ → Type 0
HoldsPast f p t st ts ms xs ys = Holds f p (nodes_to f p ++ nodes_of f p t) (next_name f p + binders t) st ts ms xs ys

module _ (f : ℕ) (p : Place) (st : Spot) (ts ms xs ys : List ℕ) (h : HoldsTo f p st ts ms xs ys) where
  -- an abstraction
  pub before-body : (N : ℕ) → Ready st N → length ts ≡ N → length ms ≡ N → length xs ≡ N
      → HoldsTo f (body p) (record { nodes = st.nodes + 1; depth = st.depth + 1; pending = st.pending; name = st.name + 1 })
      (set ts st.nodes 1) (set ms st.nodes st.name) (set xs st.depth st.name) ys
  before-body N r all-tags all-arguments all-names =
      let x : Node = record { tag = 1; argument = next_name f p } in
      record {
        count = omega (arith, h.count, length-append (nodes_to f p) (x ∷ []));
        tags_are = laid_more (λ n. n.tag) ts (nodes_to f p) x st.nodes 1 (omega (arith, r.fits)) h.tags_are refl;
        arguments_are = laid_more (λ n. n.argument) ms (nodes_to f p) x st.nodes st.name (omega (arith, r.fits)) h.arguments_are h.name_is;
        depth_is = omega (arith, h.depth_is);
        names_are =
            stacked-push xs (around f p) st.depth st.name (next_name f p) h.depth_is (omega (arith, r.few_deep, r.fits)) h.name_is
            h.names_are;
        open_is = h.open_is;
        open_are = h.open_are;
        name_is = omega (arith, h.name_is);
      }

  -- an application
  pub before-left : (N : ℕ) → Ready st N → length ts ≡ N → length ms ≡ N → length ys ≡ N
      → HoldsTo f (left p) (record { nodes = st.nodes + 1; depth = st.depth; pending = st.pending + 1; name = st.name })
      (set ts st.nodes 2) (set ms st.nodes st.depth) xs (set ys st.pending st.nodes)
  before-left N r all-tags all-arguments all-open =
      let x : Node = record { tag = 2; argument = depth p } in
      record {
        count = omega (arith, h.count, length-append (nodes_to f p) (x ∷ []));
        tags_are = laid_more (λ n. n.tag) ts (nodes_to f p) x st.nodes 2 (omega (arith, r.fits)) h.tags_are refl;
        arguments_are =
            laid_more (λ n. n.argument) ms (nodes_to f p) x st.nodes st.depth (omega (arith, r.fits)) h.arguments_are
            (h.depth_is ∙ around_depth f p);
        depth_is = h.depth_is;
        names_are = h.names_are;
        open_is = omega (arith, h.open_is);
        open_are =
            stacked-push ys (open_at f p) st.pending st.nodes (length (nodes_to f p)) h.open_is (omega (arith, r.few_open, r.fits))
            h.count h.open_are;
        name_is = h.name_is;
      }

  -- a variable

  nodes-pick : (q : Bool) (k y : ℕ) → nodes_of f p (cond q (bound k) (free y)) ≡ record { tag = 0; argument = cond q (get_or (around f p) k 0) y } ∷ []
  nodes-pick true k y = refl
  nodes-pick false k y = refl

  binders-pick : (q : Bool) (k y : ℕ) → binders (cond q (bound k) (free y)) ≡ 0
  binders-pick true k y = refl
  binders-pick false k y = refl

  name-pick : (q : Bool) (k : ℕ) → ltb k st.depth ≡ q
      → cond q (get_or xs (st.depth - 1 - k) 0) (k - st.depth) ≡ cond q (get_or (around f p) k 0) (k - st.depth)
  name-pick true k e =
      ap (λ d. get_or xs (d - 1 - k) 0) h.depth_is
      ∙ stacked-at xs (around f p) k (omega (arith, ltb-true k st.depth e, h.depth_is)) h.names_are
  name-pick false k e = refl

  pub after-variable : (N k : ℕ) → Ready st N → length ts ≡ N → length ms ≡ N
      → HoldsPast f p (variable st.depth k) (record { nodes = st.nodes + 1; depth = st.depth; pending = st.pending; name = st.name })
      (set ts st.nodes 0) (set ms st.nodes (name_of xs st.depth k)) xs ys
  after-variable N k r all-tags all-arguments =
      let q = ltb k st.depth in
      let x : Node = record { tag = 0; argument = cond q (get_or (around f p) k 0) (k - st.depth) } in
      let e : nodes_to f p ++ (x ∷ []) ≡ nodes_to f p ++ nodes_of f p (variable st.depth k)
      = ap (λ l. nodes_to f p ++ l) (sym (nodes-pick q k (k - st.depth))) in
      record {
        count = omega (arith, h.count, length-append (nodes_to f p) (x ∷ []), ap length e);
        tags_are = laid_more (λ n. n.tag) ts (nodes_to f p) x st.nodes 0 (omega (arith, r.fits)) h.tags_are refl ∙ ap (map (λ n. n.tag)) e;
        arguments_are =
            laid_more (λ n. n.argument) ms (nodes_to f p) x st.nodes (name_of xs st.depth k) (omega (arith, r.fits)) h.arguments_are
            (name-pick q k refl)
            ∙ ap (map (λ n. n.argument)) e;
        depth_is = h.depth_is;
        names_are = h.names_are;
        open_is = h.open_is;
        open_are = h.open_are;
        name_is = omega (arith, h.name_is, binders-pick q k (k - st.depth));
      }

-- the end of a left part: its application gets its size, and the right part is next
module _ (f : ℕ) (p q : Place) (t : Term) (st : Spot) (ts ms xs ys : List ℕ) (e : ended p t ≡ part q) (h : HoldsPast f p t st ts ms xs ys) where
  pub closes : Closes f p t q
  closes = subst (Ends f p t) e (ended_is f p t)

  abbrev pub before : List Node
  before = nodes_to f closes.place

  abbrev pub behind : List Node
  behind = nodes_of f closes.place closes.left_part

  abbrev pub opened : Node
  opened = record { tag = 2; argument = depth closes.place }

  stack : Stacked ys (length before ∷ open_at f closes.place)
  stack = subst (Stacked ys) closes.open_are h.open_are

  pending-is : st.pending - 1 ≡ length (open_at f closes.place)
  pending-is = omega (arith, h.open_is, ap length closes.open_are)

  pub top-is : get_or ys (st.pending - 1) 0 ≡ length before
  top-is = ap (λ i. get_or ys i 0) pending-is ∙ stack.0

  nodes-count : st.nodes ≡ length before + suc (size closes.left_part)
  nodes-count =
      h.count ∙ ap length closes.nodes_are ∙ length-append (nodes_to f closes.place) (opened ∷ behind)
      ∙ ap (λ n. length (nodes_to f closes.place) + suc n) (nodes-size f closes.place closes.left_part)

  -- the arguments with another number at the application
  arguments-at : (v : ℕ) → set (take st.nodes ms) (length before) v ≡ map (λ n. n.argument) (before ++ (record { tag = 2; argument = v } ∷ behind))
  arguments-at v =
      ap (λ l. set l (length before) v) (h.arguments_are ∙ ap (map (λ n. n.argument)) closes.nodes_are ∙ map-append (λ n. n.argument) before (opened ∷ behind))
      ∙ set_at (map (λ n. n.argument) before) (depth closes.place) (map (λ n. n.argument) behind) v (length before) (length-map before (λ n. n.argument))
      ∙ sym (map-append (λ n. n.argument) before (record { tag = 2; argument = v } ∷ behind))

  argument_is : get_or ms (length before) 0 ≡ depth closes.place
  argument_is =
      sym (get_or-take st.nodes ms (length before) 0 (omega (arith, nodes-count)))
      ∙ ap (λ l. get_or l (length before) 0)
      (h.arguments_are ∙ ap (map (λ n. n.argument)) closes.nodes_are ∙ map-append (λ n. n.argument) before (opened ∷ behind))
      ∙ get_or_at (map (λ n. n.argument) before) (depth closes.place) (map (λ n. n.argument) behind) 0 (length before) (length-map before (λ n. n.argument))

  tags_same : map (λ n. n.tag) (before ++ (opened ∷ behind)) ≡ map (λ n. n.tag) (before ++ (record { tag = 2; argument = size closes.left_part } ∷ behind))
  tags_same =
      map-append (λ n. n.tag) before (opened ∷ behind)
      ∙ sym (map-append (λ n. n.tag) before (record { tag = 2; argument = size closes.left_part } ∷ behind))

  -- so the application that is closed is one of the nodes
  pub closes-node : get_or ys (st.pending - 1) 0 < st.nodes
  closes-node = omega (arith, top-is, nodes-count)

  pub some-open : 1 ≤ st.pending
  some-open = omega (arith, h.open_is, ap length closes.open_are)

  pub few-open : st.pending ≤ st.nodes
  few-open =
      let n = nodes_few f p in
      let l = length-append (nodes_to f p) (nodes_of f p t) in
      omega (arith, h.open_is, h.count, n.applications)

  pub before-right : HoldsTo f q
      (record { nodes = st.nodes; depth = get_or ms (get_or ys (st.pending - 1) 0) 0; pending = st.pending - 1; name = st.name })
      ts (set ms (get_or ys (st.pending - 1) 0) (st.nodes - get_or ys (st.pending - 1) 0 - 1)) xs ys
  before-right =
      subst
      (λ z. HoldsTo f z (record { nodes = st.nodes; depth = get_or ms (get_or ys (st.pending - 1) 0) 0; pending = st.pending - 1; name = st.name })
      ts (set ms (get_or ys (st.pending - 1) 0) (st.nodes - get_or ys (st.pending - 1) 0 - 1)) xs ys)
      (sym closes.is_right)
      (record {
        count =
            nodes-count ∙ ap (λ n. length before + suc n) (sym (nodes-size f closes.place closes.left_part))
            ∙ sym (length-append before (record { tag = 2; argument = size closes.left_part } ∷ behind));
        tags_are = h.tags_are ∙ ap (map (λ n. n.tag)) closes.nodes_are ∙ tags_same;
        arguments_are =
            take-set-lt st.nodes ms (get_or ys (st.pending - 1) 0) (st.nodes - get_or ys (st.pending - 1) 0 - 1) (omega (arith, top-is, nodes-count))
            ∙ ap (λ a. set (take st.nodes ms) a (st.nodes - a - 1)) top-is
            ∙ ap (set (take st.nodes ms) (length before)) (omega (arith, nodes-count)) ∙ arguments-at (size closes.left_part);
        depth_is = ap (λ a. get_or ms a 0) top-is ∙ argument_is ∙ sym (around_depth f closes.place);
        names_are = closes.outer xs h.names_are;
        open_is = pending-is;
        open_are = stack.1;
        name_is = h.name_is ∙ closes.name_is;
      })
