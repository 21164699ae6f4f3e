-- A turn of scanning, for each kind of node. The invariant: the nodes up to a place stand in the arrays, and reading all of the bits comes to
-- reading, at that place, what is ahead of the cursor.
-- Assumes nothing.
use Prim.Native.Nat.{ℕ, suc, ◌+◌, ◌-◌, ◌*◌, ◌≤◌, ◌<◌}
use mathlib.Core.Path.{◌≡◌, refl, sym, ap, ◌∙◌, subst}
use mathlib.Core.Bool.{Bool, true, false, cond, ◌&&◌}
use mathlib.Core.List.{List, ◌∷◌, map}
use native.Mathlib.Omega.{arith}
use lib.Dec.{ltb}
use lib.ListN.{length, length-append}
use borrow.Author.Tests.{lt-ltb, le-ltb}
use Rattle.fireball.specs.Term.{free, bound, size}
use Rattle.termfile.specs.File.{max_free, max_nodes}
use Rattle.binary.specs.Reading.{Place, whole, body, left, depth, Next, done, part, ended, variable, nothing, Reading, unread, within, onward, reading}
use Rattle.binary.specs.Bits.{bits_in}
use Rattle.binary.proofs.Packing.{length-bits_in}
use Rattle.binary.proofs.Ones.{node_over, index-over}
use Rattle.importing.specs.Ahead.{ahead, node_read, NodeAt}
use Rattle.importing.specs.Holding.{nodes_of, nodes_to, Before, After, Ready, Closable}
use Rattle.importing.specs.Scanning.{Roomy, reading_of, ReadTo}
use Rattle.importing.proofs.Holding.{around_depth, nodes-size, nodes_few, Ends, ended_is}
use Rattle.importing.proofs.Places.{some-open, few-open, closes-node}
use Rattle.importing.specs.declared.cursor.Cursor.{Cursor}
use Rattle.importing.specs.declared.node.Node.{Node}
use Rattle.importing.specs.declared.node.Node.TheVariants.{Abstraction, Application, Variable}
use Rattle.importing.specs.declared.placing.Spot.{Spot}
use Rattle.importing.specs.declared.placing.Scratch.{Scratch}
use Rattle.std.specs.Prelude.{Option, Some, None}

pub record Turn {N : ℕ} (f : ℕ) (s : List ℕ) (c : Cursor) (st : Spot) (l : Scratch N) : Type 0 where
  pub few_free : f ≤ max_free
  pub place : Place
  pub holds : Before f place st l
  pub going : reading_of f s ≡ reading f nothing place st.nodes (ahead s c)
  pub enough : 2 * st.nodes + length (ahead s c) ≤ 8 * length s
  pub few : st.nodes ≤ max_nodes

pub turn-first : {N : ℕ} (f : ℕ) (s : List ℕ) (c : Cursor) (l : Scratch N) → f ≤ max_free → ahead s c ≡ bits_in s
    → Turn f s c (record { nodes = 0; depth = 0; pending = 0; name = f }) l
turn-first f s c l h e =
    record {
      few_free = h;
      place = whole;
      holds =
          record {
            count = refl;
            tags_are = refl;
            arguments_are = refl;
            depth_is = refl;
            names_are = tt;
            open_is = refl;
            open_are = tt;
            name_is = refl;
          };
      going = ap (reading f nothing whole 0) (sym e);
      enough = omega (arith, length-bits_in s, ap length e);
      few = omega arith;
    }

module _ {N f : ℕ} {s : List ℕ} {c : Cursor} {st : Spot} {l : Scratch N} (t : Turn f s c st l) where
  depth_is : st.depth ≡ depth t.place
  depth_is = t.holds.depth_is ∙ around_depth f t.place

  -- the next node, wherever reading stands
  node-next : (r : Option (Node × Cursor)) → NodeAt nothing 2 s c r → reading_of f s ≡ node_read s f t.place st.nodes r
  node-next r w =
      t.going
      ∙ w.goes_on f t.place st.nodes
      (omega (arith, around_depth f t.place, (nodes_few f t.place).deep, t.holds.count, t.few))

  -- the next node is one that is known
  pub node-known : {o : Option (Node × Cursor)} {x r : Node} {d : Cursor} → NodeAt nothing 2 s c o → o ≡ Some (x, d) → x ≡ r
      → NodeAt nothing 2 s c (Some (r, d))
  node-known {d = d} w e i = subst (λ y. NodeAt nothing 2 s c (Some (y, d))) i (subst (NodeAt nothing 2 s c) e w)

  -- the bits end
  pub turn-cut : NodeAt nothing 2 s c None → reading_of f s ≡ unread 14
  turn-cut w = node-next None w

  -- there is room for one more node
  pub turn-ready : (d : Cursor) → st.nodes < max_nodes → length (ahead s d) + 2 ≤ length (ahead s c) → Roomy (length s) N → Ready st N
  turn-ready d less short room =
      let n = nodes_few f t.place in
      let enough : 2 * st.nodes + 2 ≤ 8 * length s = omega (arith, t.enough) in
      record {
        fits = room st.nodes less enough;
        few_nodes = omega arith;
        few_deep = omega (arith, n.deep, t.holds.depth_is, t.holds.count);
        few_open = omega (arith, n.applications, t.holds.open_is, t.holds.count);
        few_names = omega (arith, n.names, t.holds.name_is, t.holds.count);
      }

  -- what follows on a variable
  behind : (k : ℕ) (d : Cursor) → Reading
  behind k d = onward (ended t.place (variable (depth t.place) k)) (ahead s d) (λ q. reading f nothing q (suc st.nodes) (ahead s d))

  -- a node beyond the limit
  pub node-beyond : (r : Node) (d : Cursor) → max_nodes ≤ st.nodes → NodeAt nothing 2 s c (Some (r, d)) → reading_of f s ≡ unread 16
  node-beyond Abstraction d h w =
      node-next (Some (Abstraction, d)) w
      ∙ ap (λ q. within q (reading f nothing (body t.place) (suc st.nodes) (ahead s d))) (le-ltb st.nodes max_nodes h)
  node-beyond Application d h w =
      node-next (Some (Application, d)) w
      ∙ ap (λ q. within q (reading f nothing (left t.place) (suc st.nodes) (ahead s d))) (le-ltb st.nodes max_nodes h)
  node-beyond (Variable k) d h w = node-next (Some (Variable k, d)) w ∙ node_over f t.place st.nodes k (ahead s d) h

  pub index-beyond : {k : ℕ} {d : Cursor} → st.depth + f ≤ k → NodeAt nothing 2 s c (Some (Variable k, d)) → reading_of f s ≡ unread 16
  index-beyond {k} {d} h w =
      node-next (Some (Variable k, d)) w ∙ index-over f t.place st.nodes k (ahead s d) (omega (arith, depth_is))

  module _ (less : st.nodes < max_nodes) where
    -- a new place with one node more before it
    turn-node : (p : Place) (d : Cursor) (r : Spot) (l' : Scratch N) → length (ahead s d) + 2 ≤ length (ahead s c)
        → length (nodes_to f p) ≡ suc (length (nodes_to f t.place)) → Before f p r l'
        → reading_of f s ≡ reading f nothing p (suc st.nodes) (ahead s d) → Turn f s d r l'
    turn-node p d r l' short longer h e =
        let n : suc st.nodes ≡ r.nodes = omega (arith, h.count, t.holds.count) in
        record {
          few_free = t.few_free;
          place = p;
          holds = h;
          going = e ∙ ap (λ k. reading f nothing p k (ahead s d)) n;
          enough = omega (arith, t.enough);
          few = omega arith;
        }

    pub turn-abstraction : {d : Cursor} {r : Spot} {l' : Scratch N} → NodeAt nothing 2 s c (Some (Abstraction, d))
        → Before f (body t.place) r l' → Turn f s d r l'
    turn-abstraction {d} {r} {l'} w h =
        turn-node (body t.place) d r l' w.shorter (length-append (nodes_to f t.place) _ ∙ omega arith) h
        (node-next (Some (Abstraction, d)) w
        ∙ ap (λ q. within q (reading f nothing (body t.place) (suc st.nodes) (ahead s d))) (lt-ltb st.nodes max_nodes less))

    pub turn-application : {d : Cursor} {r : Spot} {l' : Scratch N} → NodeAt nothing 2 s c (Some (Application, d))
        → Before f (left t.place) r l' → Turn f s d r l'
    turn-application {d} {r} {l'} w h =
        turn-node (left t.place) d r l' w.shorter (length-append (nodes_to f t.place) _ ∙ omega arith) h
        (node-next (Some (Application, d)) w
        ∙ ap (λ q. within q (reading f nothing (left t.place) (suc st.nodes) (ahead s d))) (lt-ltb st.nodes max_nodes less))

    -- a variable in range
    module _ {k : ℕ} {d : Cursor} (near : k < st.depth + f) (w : NodeAt nothing 2 s c (Some (Variable k, d))) where
      and_both : (a b : Bool) → a ≡ true → b ≡ true → a && b ≡ true
      and_both a b p q = ap (λ x. x && b) p ∙ q

      node-variable : reading_of f s ≡ behind k d
      unfolding behind
      node-variable =
          node-next (Some (Variable k, d)) w
          ∙ ap (λ q. within q (behind k d))
          (and_both (ltb st.nodes max_nodes) (ltb k (depth t.place + f)) (lt-ltb st.nodes max_nodes less)
          (lt-ltb k (depth t.place + f) (omega (arith, depth_is))))

      size-pick : (q : Bool) (y : ℕ) → size (cond q (bound k) (free y)) ≡ 1
      size-pick true y = refl
      size-pick false y = refl

      -- once it is put, in arrays that then hold ts' and ms'
      module _ {r : Spot} {l' : Scratch N} (h : After f t.place (variable st.depth k) r l') where
        same-term : variable st.depth k ≡ variable (depth t.place) k
        same-term = ap (λ m. variable m k) depth_is

        after : After f t.place (variable (depth t.place) k) r l'
        after = subst (λ v. After f t.place v r l') same-term h

        one_more : r.nodes ≡ suc st.nodes
        one_more =
            let v = variable st.depth k in
            omega (
              arith,
              h.count,
              length-append (nodes_to f t.place) (nodes_of f t.place v),
              nodes-size f t.place v,
              size-pick (ltb k st.depth) (k - st.depth),
              t.holds.count,
            )

        -- no application is open: it ends the term
        last-term : (x : Next) → ended t.place (variable (depth t.place) k) ≡ x → Ends f t.place (variable (depth t.place) k) x
            → r.pending ≡ 0 → st.nodes < N → ReadTo f s r.nodes d l'
        unfolding behind
        last-term (done u) e ends none_open fits =
            record {
              term = u;
              read_is = node-variable ∙ ap (λ x. onward x (ahead s d) (λ q. reading f nothing q (suc st.nodes) (ahead s d))) e;
              count = after.count ∙ ap length ends.0;
              tags_are = after.tags_are ∙ ap (map (λ n. n.tag)) ends.0;
              arguments_are = after.arguments_are ∙ ap (map (λ n. n.argument)) ends.0;
              few = omega (arith, one_more);
              fits = omega (arith, one_more);
            }
        last-term (part q) e ends none_open fits = absurd (omega (arith, after.open_is, ap length ends.open_are))

        pub variable-last : r.pending ≡ 0 → st.nodes < N → ReadTo f s r.nodes d l'
        variable-last = last-term (ended t.place (variable (depth t.place) k)) refl (ended_is f t.place (variable (depth t.place) k))

        -- one is open: its right part is next
        pub record Onward : Type 0 where
          pub next : Place
          pub ends : ended t.place (variable st.depth k) ≡ part next
          pub longer : length (nodes_to f next) ≡ suc (length (nodes_to f t.place))
          pub going : reading_of f s ≡ reading f nothing next (suc st.nodes) (ahead s d)

        next-part : (x : Next) → ended t.place (variable (depth t.place) k) ≡ x → Ends f t.place (variable (depth t.place) k) x
            → (r.pending ≡ 0 → ⊥) → Onward
        unfolding behind
        next-part (done u) e ends some_open = absurd (some_open (after.open_is ∙ ap length ends.1))
        next-part (part q) e ends some_open =
            record {
              next = q;
              ends = ap (ended t.place) same-term ∙ e;
              longer =
                  ap (λ p. length (nodes_to f p)) ends.is_right
                  ∙ length-append (nodes_to f ends.place) (record { tag = 2; argument = size ends.left_part } ∷ nodes_of f ends.place ends.left_part)
                  ∙ sym (length-append (nodes_to f ends.place) (record { tag = 2; argument = depth ends.place } ∷ nodes_of f ends.place ends.left_part))
                  ∙ sym (ap length ends.nodes_are) ∙ sym after.count ∙ one_more ∙ ap suc t.holds.count;
              going = node-variable ∙ ap (λ x. onward x (ahead s d) (λ p. reading f nothing p (suc st.nodes) (ahead s d))) e;
            }

        pub variable-part : (r.pending ≡ 0 → ⊥) → Onward
        variable-part = next-part (ended t.place (variable (depth t.place) k)) refl (ended_is f t.place (variable (depth t.place) k))

        pub part-closable : (o : Onward) → st.nodes < N → Closable r l'
        part-closable o fits =
            let v = variable st.depth k in
            record {
              some_open = some-open f t.place o.next v r l'.tags l'.args l'.names l'.apps o.ends h;
              open_fit = omega (arith, few-open f t.place o.next v r l'.tags l'.args l'.names l'.apps o.ends h, one_more);
              application = closes-node f t.place o.next v r l'.tags l'.args l'.names l'.apps o.ends h;
              nodes_fit = omega (arith, one_more);
              few_nodes = omega (arith, one_more);
            }

        pub turn-part : (o : Onward) {r' : Spot} {l'' : Scratch N} → Before f o.next r' l'' → Turn f s d r' l''
        turn-part o {r'} {l''} b = turn-node o.next d r' l'' w.shorter o.longer b o.going
