-- The turns of measuring: what is asked of the arrays at a node, and that the walk goes on behind it.
-- Assumes nothing.
use Prim.Native.Nat.{ℕ, suc, ◌+◌, ◌-◌, ◌*◌, ◌≤◌, ◌<◌}
use mathlib.Core.Path.{◌≡◌, refl, sym, ap, ◌∙◌, subst}
use mathlib.Core.Bool.{Bool, true, false, cond, and-eq-true_iff}
use mathlib.Core.List.{List, [], ◌∷◌, ◌++◌, append_assoc}
use native.Mathlib.Omega.{arith}
use lib.Dec.{eqb, ltb}
use lib.ListN.{length, get_or, take, drop, set, length-append, length-set}
use lib.Seq.{take-set-le, get_or-set_same}
use borrow.Author.Tests.{eqb-true, lt-ltb}
use Rattle.termfile.specs.Code.{Code, var, abs, app, abstractions, numbered, scoped}
use Rattle.termfile.specs.Meaning.{meaning, term_of}
use Rattle.termfile.specs.Nodes.{Node, write}
use Rattle.termfile.specs.File.{tags, arguments, nodes}
use Rattle.termfile.proofs.Bytes as bytes
use Rattle.termfile.proofs.Frame.{exact, tag_at, nodes-next}
use Rattle.termfile.proofs.Naming.{values}
use Rattle.binary.specs.Bits.{index, bits}
use Rattle.binary.specs.Stacks.{Stacked}
use Rattle.binary.proofs.Stacks.{stacked-push}
use Rattle.binary.proofs.Ones.{length-index}
use Rattle.exporting.specs.Tokens.{token, tokens, Coded}
use Rattle.exporting.specs.Measuring.{index_of, passed_variable, passed_abstraction, passed_application, Small, Indexable}
use Rattle.exporting.proofs.Items.{Item, part, nodes_of, bits_of, depths_of, length-depths, Items, levels-set, items-set, bits-variable, indexable, index-few}
use Rattle.exporting.proofs.Walks.{tokens-next, Here, Walking, Walks}
use Rattle.exporting.specs.declared.measuring.Walk.{Walk}

-- what is asked of the arrays at a variable with the name x, and how the walk goes on behind it
pub record AtVariable (s : List ℕ) (f : ℕ) (c : Code) (i : ℕ) (ks ls ds : List ℕ) (w : Walk) (x : ℕ) : Type 0 where
  pub in_range : Indexable f ls w.depth x
  pub pending_few : w.pending ≤ i
  pub total_few : w.total ≤ 32770 * i
  pub again : (k : ℕ) → k ≡ index_of ls f w.depth x → Walks s f c (i + 1) (set ks i k) ls ds (passed_variable ds w k)

-- at an abstraction that binds x
pub record AtAbstraction (s : List ℕ) (f : ℕ) (c : Code) (i : ℕ) (ks ls ds : List ℕ) (w : Walk) (x : ℕ) : Type 0 where
  pub bound_from : f ≤ x
  pub number_fits : x - f < length ls
  pub small : Small w 16384
  pub again : Walks s f c (i + 1) ks (set ls (x - f) w.depth) ds (passed_abstraction w)

-- at an application
pub record AtApplication (s : List ℕ) (f : ℕ) (c : Code) (i : ℕ) (ks ls ds : List ℕ) (w : Walk) : Type 0 where
  pub stack_fits : w.pending < length ds
  pub small : Small w 16384
  pub again : Walks s f c (i + 1) ks ls (set ds w.pending w.depth) (passed_application w)

-- the tag and the argument of the first of some nodes; no node has the tag 3
abbrev first_tag : List Node → ℕ
first_tag [] = 3
first_tag (x ∷ ns) = x.tag

abbrev first_argument : List Node → ℕ
first_argument [] = 0
first_argument (x ∷ ns) = x.argument

passed-total : (ds : List ℕ) (w : Walk) (k : ℕ) → (passed_variable ds w k).total ≡ w.total + (k + 2)
passed-total ds w k = go (ltb 0 w.pending)
  where
    go : (q : Bool)
        → (cond {A = Walk} q (record { depth = get_or ds (w.pending - 1) 0; pending = w.pending - 1; total = w.total + (k + 2) })
        (record { depth = w.depth; pending = w.pending; total = w.total + (k + 2) })).total
        ≡ w.total + (k + 2)
    go true = refl
    go false = refl

module _ {s : List ℕ} {n f : ℕ} {c : Code} (coded : Coded s n f c) {i : ℕ} (less : i < n) {ks ls ds : List ℕ} {w : Walk} (h : Walks s f c i ks ls ds w) where
  tags_long : i < length (tags s)
  tags_long = omega (arith, bytes.length-tags s (exact coded.framed), coded.framed.count)

  -- what stands before the walk, once the tag t and the argument m have been read
  module _ {t m : ℕ} (tag : t ≡ get_or (tags s) i 0) (argument : m ≡ get_or (arguments s) i 0) where
    abbrev rest : List Node
    rest = drop (i + 1) (nodes s)

    facing : (todo : List Item) → drop i (nodes s) ≡ nodes_of todo → record { tag = t; argument = m } ∷ rest ≡ nodes_of todo
    facing todo e = sym (nodes-next coded.framed i less t m tag argument) ∙ e

    -- the bits of one node more
    bits-next : (js : List ℕ) (k : ℕ) (bs : List Bool) → i < length js → get_or js i 0 ≡ k → take i js ≡ take i ks
        → tokens (take i (tags s)) (take i ks) ++ (token t k ++ bs) ≡ bits 0 (term_of c)
        → tokens (take (i + 1) (tags s)) (take (i + 1) js) ++ bs ≡ bits 0 (term_of c)
    bits-next js k bs fits g same e =
        ap (λ l. l ++ bs)
        (tokens-next (tags s) js i t k tags_long fits (sym tag) g ∙ ap (λ l. tokens (take i (tags s)) l ++ token t k) same)
        ∙ append_assoc (tokens (take i (tags s)) (take i ks)) (token t k) bs ∙ e

    total-next : (js : List ℕ) (k total : ℕ) → i < length js → get_or js i 0 ≡ k → take i js ≡ take i ks
        → w.total ≡ length (tokens (take i (tags s)) (take i ks)) → total ≡ w.total + length (token t k)
        → total ≡ length (tokens (take (i + 1) (tags s)) (take (i + 1) js))
    total-next js k total fits g same e d =
        d ∙ ap (λ x. x + length (token t k)) e ∙ sym (length-append (tokens (take i (tags s)) (take i ks)) (token t k))
        ∙ ap length
        (ap (λ l. tokens (take i (tags s)) l ++ token t k) (sym same) ∙ sym (tokens-next (tags s) js i t k tags_long fits (sym tag) g))

    -- A variable

    -- the code behind a variable is the one on top of the stack
    popped : (k d : ℕ) (todo : List Item) → (w.depth ≡ d) × (w.pending ≡ length todo) × Stacked ds (depths_of todo) → Here (passed_variable ds w k) ds todo
    popped k d [] p = tt
    popped k d (part zs b ∷ todo) p =
        let q = lt-ltb 0 w.pending (omega (arith, p.1)) in
        let top : w.pending - 1 ≡ length (depths_of todo) = omega (arith, p.1, length-depths todo) in
        subst
        (λ x. Here x ds (part zs b ∷ todo))
        (ap
        (λ q. cond q (record { depth = get_or ds (w.pending - 1) 0; pending = w.pending - 1; total = w.total + (k + 2) })
        (record { depth = w.depth; pending = w.pending; total = w.total + (k + 2) }))
        (sym q))
        (ap (λ j. get_or ds j 0) top ∙ p.2.0, omega (arith, p.1), p.2.1)

    pub at-variable : t ≡ 0 → n ≤ 16384 → n ≤ length ks → n ≤ length ls → AtVariable s f c i ks ls ds w m
    at-variable zero-tag few long-ks long-ls = go h.todo h.walking
      where
        go : (todo : List Item) → Walking s f c i ks ls ds w todo h.low → AtVariable s f c i ks ls ds w m
        go [] g = let e = ap first_tag (facing [] g.nodes_are) in absurd (omega (arith, e))
        go (part ys (abs x d) ∷ todo) g = let e = ap first_tag (facing (part ys (abs x d) ∷ todo) g.nodes_are) in absurd (omega (arith, e))
        go (part ys (app d b) ∷ todo) g = let e = ap first_tag (facing (part ys (app d b) ∷ todo) g.nodes_are) in absurd (omega (arith, e))
        go (part ys (var x) ∷ todo) g =
            let e = facing (part ys (var x) ∷ todo) g.nodes_are in
            let same : m ≡ x = ap first_argument e in
            let depth_is = g.here.0 in
            let good = g.items.0 in
            let range : Indexable f ls w.depth m =
            subst (λ y. Indexable f ls w.depth y) (sym same)
            (subst (λ y. Indexable f ls y x) (sym depth_is)
            (indexable f ls h.low x ys good.levels_are good.in_scope (omega (arith, good.few, g.passed)) (omega (arith, coded.few_free))
            (omega (arith, g.passed)))) in
            record {
              in_range = range;
              pending_few = omega (arith, g.here.1, g.many);
              total_few = g.total_few;
              again =
                  λ k k-is.
                  let fits : i < length (set ks i k) = subst (λ y. i < y) (sym (length-set ks i k)) (omega arith) in
                  let at_i = get_or-set_same ks i k 0 (omega arith) in
                  let front = take-set-le i ks i k (omega arith) in
                  let bits-x : bits (length ys) (values ys x) ≡ index k =
                  bits-variable f ls h.low x ys good.levels_are good.in_scope
                  ∙ ap (λ y. index (index_of ls f y x)) (sym depth_is) ∙ ap (λ y. index (index_of ls f w.depth y)) (sym same) ∙ ap index (sym k-is) in
                  let small = index-few f ls w.depth m range in
                  record {
                    todo = todo;
                    low = h.low;
                    walking =
                        record {
                          nodes_are = ap (drop 1) e;
                          items = subst (λ y. Items f ls h.low y todo) (omega arith) g.items.1;
                          free_low = g.free_low;
                          passed = omega (arith, g.passed);
                          here = popped k (length ys) todo g.here;
                          many = omega (arith, g.many);
                          bits_are =
                              bits-next (set ks i k) k (bits_of todo) fits at_i front
                              (ap (λ y. tokens (take i (tags s)) (take i ks) ++ (token y k ++ bits_of todo)) zero-tag
                              ∙ ap (λ l. tokens (take i (tags s)) (take i ks) ++ (l ++ bits_of todo)) (sym bits-x) ∙ g.bits_are);
                          total_is =
                              total-next (set ks i k) k (passed_variable ds w k).total fits at_i front g.total_is
                              (passed-total ds w k ∙ ap (λ y. w.total + y) (sym (length-index k) ∙ ap (λ y. length (token y k)) (sym zero-tag)));
                          total_few = omega (arith, passed-total ds w k, g.total_few, small, k-is);
                        };
                  };
            }

    -- An abstraction

    pub at-abstraction : t ≡ 1 → n ≤ 16384 → n ≤ length ks → n ≤ length ls → AtAbstraction s f c i ks ls ds w m
    at-abstraction one_tag few long-ks long-ls = go h.todo h.walking
      where
        go : (todo : List Item) → Walking s f c i ks ls ds w todo h.low → AtAbstraction s f c i ks ls ds w m
        go [] g = let e = ap first_tag (facing [] g.nodes_are) in absurd (omega (arith, e))
        go (part ys (var x) ∷ todo) g = let e = ap first_tag (facing (part ys (var x) ∷ todo) g.nodes_are) in absurd (omega (arith, e))
        go (part ys (app d b) ∷ todo) g = let e = ap first_tag (facing (part ys (app d b) ∷ todo) g.nodes_are) in absurd (omega (arith, e))
        go (part ys (abs x d) ∷ todo) g =
            let low = h.low in
            let e = facing (part ys (abs x d) ∷ todo) g.nodes_are in
            let good = g.items.0 in
            let order = (and-eq-true_iff (eqb x low) (numbered (suc low) d)).0 good.in_order in
            let x-low : x ≡ low = eqb-true x low order.0 in
            let m-low : m ≡ low = ap first_argument e ∙ x-low in
            let level : get_or (set ls (low - f) w.depth) (x - f) 0 ≡ length ys =
            ap (λ y. get_or (set ls (low - f) w.depth) (y - f) 0) x-low
            ∙ get_or-set_same ls (low - f) w.depth 0 (omega (arith, g.passed)) ∙ g.here.0 in
            let renumbered : low + abstractions (abs x d) ≡ suc low + abstractions d = omega arith in
            record {
              bound_from = omega (arith, g.free_low);
              number_fits = omega (arith, g.passed, g.free_low);
              small =
                  record {
                    depth_small = omega (arith, g.here.0, good.few, g.passed);
                    pending_small = omega (arith, g.here.1, g.many);
                    total_small = omega (arith, g.total_few);
                  };
              again =
                  subst (λ y. Walks s f c (i + 1) ks (set ls (y - f) w.depth) ds (passed_abstraction w)) (sym m-low)
                  (record {
                    todo = part (x ∷ ys) d ∷ todo;
                    low = suc low;
                    walking =
                        record {
                          nodes_are = ap (drop 1) e;
                          items = (
                            record {
                              levels_are = (
                                omega (arith, g.free_low),
                                omega arith,
                                level,
                                levels-set f ls low w.depth ys g.free_low good.levels_are,
                              );
                              few = omega (arith, good.few);
                              in_order = order.1;
                              in_scope = good.in_scope;
                            },
                            subst (λ y. Items f (set ls (low - f) w.depth) (suc low) y todo) renumbered
                                (items-set f ls low (low + abstractions (abs x d)) w.depth todo g.free_low g.items.1),
                          );
                          free_low = omega (arith, g.free_low);
                          passed = omega (arith, g.passed);
                          here = (omega (arith, g.here.0), g.here.1, g.here.2);
                          many = omega (arith, g.many);
                          bits_are =
                              bits-next ks (get_or ks i 0) (bits_of (part (x ∷ ys) d ∷ todo)) (omega arith) refl refl
                              (ap (λ y. tokens (take i (tags s)) (take i ks) ++ (token y (get_or ks i 0) ++ bits_of (part (x ∷ ys) d ∷ todo))) one_tag ∙ g.bits_are);
                          total_is =
                              total-next ks (get_or ks i 0) (w.total + 2) (omega arith) refl refl g.total_is
                              (ap (λ y. w.total + length (token y (get_or ks i 0))) (sym one_tag));
                          total_few = omega (arith, g.total_few);
                        };
                  });
            }

    -- An application

    pub at-application : (t ≡ 0 → ⊥) → (t ≡ 1 → ⊥) → n ≤ 16384 → n ≤ length ks → n ≤ length ds → AtApplication s f c i ks ls ds w
    at-application not-zero not-one few long-ks long-ds = go h.todo h.walking
      where
        go : (todo : List Item) → Walking s f c i ks ls ds w todo h.low → AtApplication s f c i ks ls ds w
        go [] g =
            let e : ◌≡◌ {A = List Node} (record { tag = t; argument = m } ∷ rest) [] = facing [] g.nodes_are in
            let z : ◌≡◌ {A = ℕ} 0 1 = cc in
            absurd (omega arith)
        go (part ys (var x) ∷ todo) g = absurd (not-zero (ap first_tag (facing (part ys (var x) ∷ todo) g.nodes_are)))
        go (part ys (abs x d) ∷ todo) g = absurd (not-one (ap first_tag (facing (part ys (abs x d) ∷ todo) g.nodes_are)))
        go (part ys (app d b) ∷ todo) g =
            let low = h.low in
            let e = facing (part ys (app d b) ∷ todo) g.nodes_are in
            let two : t ≡ 2 = ap first_tag e in
            let good = g.items.0 in
            let order = (and-eq-true_iff (numbered low d) (numbered (low + abstractions d) b)).0 good.in_order in
            let scope = (and-eq-true_iff (scoped f ys d) (scoped f ys b)).0 good.in_scope in
            let later : low + abstractions (app d b) ≡ low + abstractions d + abstractions b = omega arith in
            let stack_fits : w.pending < length ds = omega (arith, g.here.1, g.many) in
            let bits-d = bits (length ys) (meaning (values ys) d) in
            let bits-b = bits (length ys) (meaning (values ys) b) in
            record {
              stack_fits = stack_fits;
              small =
                  record {
                    depth_small = omega (arith, g.here.0, good.few, g.passed);
                    pending_small = omega (arith, g.here.1, g.many);
                    total_small = omega (arith, g.total_few);
                  };
              again =
                  record {
                    todo = part ys d ∷ part ys b ∷ todo;
                    low = low;
                    walking =
                        record {
                          nodes_are = ap (drop 1) e ∙ append_assoc (write d) (write b) (nodes_of todo);
                          items = (
                            record { levels_are = good.levels_are; few = good.few; in_order = order.0; in_scope = scope.0 },
                            (
                              record { levels_are = good.levels_are; few = good.few; in_order = order.1; in_scope = scope.1 },
                              subst (λ y. Items f ls low y todo) later g.items.1,
                            ),
                          );
                          free_low = g.free_low;
                          passed = omega (arith, g.passed);
                          here = (
                            g.here.0,
                            omega (arith, g.here.1),
                            stacked-push ds (depths_of todo) w.pending w.depth (length ys) (g.here.1 ∙ sym (length-depths todo)) stack_fits g.here.0
                                g.here.2,
                          );
                          many = omega (arith, g.many);
                          bits_are =
                              bits-next ks (get_or ks i 0) (bits-d ++ (bits-b ++ bits_of todo)) (omega arith) refl refl
                              (ap (λ y. tokens (take i (tags s)) (take i ks) ++ (token y (get_or ks i 0) ++ (bits-d ++ (bits-b ++ bits_of todo)))) two
                              ∙ ap (λ l. tokens (take i (tags s)) (take i ks) ++ (false ∷ true ∷ l)) (sym (append_assoc bits-d bits-b (bits_of todo)))
                              ∙ g.bits_are);
                          total_is =
                              total-next ks (get_or ks i 0) (w.total + 2) (omega arith) refl refl g.total_is
                              (ap (λ y. w.total + length (token y (get_or ks i 0))) (sym two));
                          total_few = omega (arith, g.total_few);
                        };
                  };
            }

-- The same of the byte that is the node's tag

module _ {s : List ℕ} {n f : ℕ} {c : Code} (coded : Coded s n f c) {i : ℕ} (less : i < n) {ks ls ds : List ℕ} {w : Walk} (h : Walks s f c i ks ls ds w) where
  tag-here : get_or s (4 + i) 0 ≡ get_or (tags s) i 0
  tag-here = sym (tag_at s coded.framed.count (exact coded.framed) i less)

  pub variable-here : {m : ℕ} → get_or s (4 + i) 0 ≡ 0 → m ≡ get_or (arguments s) i 0 → n ≤ length ks → n ≤ length ls → AtVariable s f c i ks ls ds w m
  variable-here tag argument = at-variable coded less h tag-here argument tag coded.framed.most

  pub abstraction-here : {m : ℕ} → get_or s (4 + i) 0 ≡ 1 → m ≡ get_or (arguments s) i 0 → n ≤ length ks → n ≤ length ls
      → AtAbstraction s f c i ks ls ds w m
  abstraction-here tag argument = at-abstraction coded less h tag-here argument tag coded.framed.most

  pub application-here : (get_or s (4 + i) 0 ≡ 0 → ⊥) → (get_or s (4 + i) 0 ≡ 1 → ⊥) → n ≤ length ks → n ≤ length ds
      → AtApplication s f c i ks ls ds w
  application-here not-zero not-one = at-application coded less h tag-here refl not-zero not-one coded.framed.most
