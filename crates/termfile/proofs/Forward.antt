-- Refusals 4 to 7 as one pass over the nodes, left to right. The idea: a node says where the subterms that follow it have to end, so the
-- nodes are codes one after the other exactly when each variable stands where an end is due, and nothing is due in the end. Letters: p q
-- are positions, n is the number of nodes; due has where the subterms to come have to end, the present one first, and then a 0; es has the
-- ends of the abstractions passed.
-- Assumes nothing.
use Prim.Native.Nat.{ℕ, zero, suc, ◌+◌, ◌≤◌, ◌<◌}
use mathlib.Core.Path.{◌≡◌, refl, sym, ap, ap₂, subst, ◌∙◌}
use mathlib.Core.Bool.{Bool, true, false, cond, ◌&&◌, and-eq-true_iff}
use mathlib.Core.List.{List, [], ◌∷◌, ◌++◌, append_assoc, append-nil}
use mathlib.Core.Option as math
use mathlib.Core.Option.{none, some, none-ne-some}
use native.Mathlib.Omega.{arith}
use native.Mathlib.Numerals.{add-one}
use lib.Dec.{eqb, ltb}
use lib.ListN.{length, get_or, length-append}
use borrow.Author.Tests.{lt-ltb, le-ltb, eq-eqb, ne_eqb, eqb-true, ltb-true}
use Rattle.termfile.specs.Code.{Code, var, abs, app, size, abstractions, numbered, scoped}
use Rattle.termfile.specs.Nodes.{Node, write, forest, single, read}
use Rattle.termfile.specs.Passes.{tested}
use Rattle.std.specs.Prelude.{Option, Some, None}
use Rattle.termfile.proofs.Reading.{read_is, length-write, size-pos}
use Rattle.termfile.proofs.Visibility.{sees, sees-member, ends_in, ends_in-most, length-ends_in, Agrees, agrees-later, agrees-binder}

abbrev pub passes : ℕ → ℕ → List ℕ → List ℕ → List Node → Option ℕ
passes f p due es [] = cond (eqb (get_or due 0 1) 0) (Some (length es)) None
passes f p [] es (node ∷ ns) = None
passes f p (e ∷ due) es (node ∷ ns) =
    cond (eqb node.tag 0) (cond (eqb e (suc p) && sees f p es node.argument) (passes f (suc p) due es ns) None)
    (cond (eqb node.tag 1) (cond (eqb node.argument (f + length es)) (passes f (suc p) (e ∷ due) (es ++ (e ∷ [])) ns) None)
    (cond (eqb node.tag 2) (cond (ltb (suc p + node.argument) e) (passes f (suc p) ((suc p + node.argument) ∷ e ∷ due) es ns) None) None))

-- Over the nodes of a code the pass is the paper's two conditions, and goes on behind them

both : (a b c d : Bool) (r : Option ℕ) → cond (a && b) (cond (c && d) r None) None ≡ cond ((a && c) && (b && d)) r None
both true true c d r = refl
both true false true d r = refl
both true false false d r = refl
both false b c d r = refl

passes-write : (c : Code) (f p q : ℕ) (due es around : List ℕ) (ns : List Node) → q ≡ p + size c → Agrees f around es p q
    → passes f p (q ∷ due) es (write c ++ ns) ≡ cond (numbered (f + length es) c && scoped f around c) (passes f q due (es ++ ends_in p c) ns) None
passes-write (var x) f p q due es around ns e a =
    rw (eq-eqb q (suc p) (omega arith), sees-member f around es p q x a (omega arith), append-nil es)
    (ap (λ (i : ℕ). cond (scoped f around (var x)) (passes f i due es ns) None) next)
  where
    next : suc p ≡ q
    next = omega arith
passes-write (abs x c) f p q due es around ns e a =
    go (eqb x (f + length es)) (eqb-true x (f + length es))
    (λ b. passes-write c f (suc p) q due (es ++ (q ∷ [])) (x ∷ around) ns (omega arith) (agrees-binder f around es x p q a b))
  where
    longer : f + length (es ++ (q ∷ [])) ≡ suc (f + length es)
    longer = omega (arith, length-append es (q ∷ []))

    more : es ++ (q ∷ []) ++ ends_in (suc p) c ≡ es ++ ends_in p (abs x c)
    more = append_assoc es (q ∷ []) (ends_in (suc p) c) ∙ ap (λ (i : ℕ). es ++ (i ∷ ends_in (suc p) c)) e

    -- the pass from the body on, and what it has to be
    body : Option ℕ
    body = passes f (suc p) (q ∷ due) (es ++ (q ∷ [])) (write c ++ ns)

    after : ℕ → List ℕ → Option ℕ
    after k ds = cond (numbered k c && scoped f (x ∷ around) c) (passes f q due ds ns) None

    go : (b : Bool) → (b ≡ true → x ≡ f + length es)
        → (x ≡ f + length es → body ≡ after (f + length (es ++ (q ∷ []))) (es ++ (q ∷ []) ++ ends_in (suc p) c))
        → cond b body None
        ≡ cond ((b && numbered (suc (f + length es)) c) && scoped f (x ∷ around) c) (passes f q due (es ++ ends_in p (abs x c)) ns) None
    go true h inner = inner (h refl) ∙ ap₂ after longer more
    go false h inner = refl
passes-write (app c d) f p q due es around ns e a =
    rw (lt-ltb (suc p + size c) q (omega (arith, size-pos d)))
    (ap (passes f (suc p) ((suc p + size c) ∷ q ∷ due) es) (append_assoc (write c) (write d) ns)
    ∙ passes-write c f (suc p) (suc p + size c) (q ∷ due) es around (write d ++ ns) refl (λ k j l u. a k j (omega arith) (omega arith))
    ∙ ap (λ (r : Option ℕ). cond (numbered (f + length es) c && scoped f around c) r None)
    (passes-write d f (suc p + size c) q due (es ++ ends_in (suc p) c) around ns (omega arith)
    (agrees-later f around es (ends_in (suc p) c) p (suc p + size c) q a (omega arith) (ends_in-most c (suc p) (suc p + size c) (omega arith)))
    ∙ ap₂ (λ (k : ℕ) (ds : List ℕ). cond (numbered k d && scoped f around d) (passes f q due ds ns) None) names
    (append_assoc es (ends_in (suc p) c) (ends_in (suc p + size c) d)))
    ∙ both (numbered (f + length es) c) (scoped f around c) (numbered (f + length es + abstractions c) d) (scoped f around d)
    (passes f q due (es ++ ends_in p (app c d)) ns))
  where
    names : f + length (es ++ ends_in (suc p) c) ≡ f + length es + abstractions c
    names = omega (arith, length-append es (ends_in (suc p) c), length-ends_in c (suc p))

-- What passes is codes that stand one after the other

-- of n nodes, at position p: what is due is positive and at most n, and the last is n; where nothing is left but the 0, p is n
abbrev pub Closes : ℕ → ℕ → List ℕ → Type 0
Closes n p [] = ⊥
Closes n p (e ∷ []) = (e ≡ 0) × (n ≡ p)
Closes n p (e ∷ d ∷ due) = (0 < e) × (e ≤ n) × Closes n e (d ∷ due)

-- where codes end that stand one after the other from p on
abbrev closings : ℕ → List Code → List ℕ
closings p [] = 0 ∷ []
closings p (c ∷ cs) = (p + size c) ∷ closings (p + size c) cs

-- nodes from p on that read as codes, which end where it is due
record Shape (ns : List Node) (p : ℕ) (due : List ℕ) : Type 0 where
  codes : List Code
  whole : forest ns ≡ some codes
  close : due ≡ closings p codes

-- to fail is not to pass
pub failed-passed : {k : ℕ} → None ≡ Some k → ⊥
failed-passed e = let z : ◌≡◌ {A = ℕ} 0 1 = cc in omega arith

cond-passed : (b : Bool) (r : Option ℕ) (k : ℕ) → cond b r None ≡ Some k → (b ≡ true) × (r ≡ Some k)
cond-passed true r k e = (refl, e)
cond-passed false r k e = absurd (failed-passed e)

-- a node with the argument m in front of such nodes
module _ (m p e d : ℕ) (due : List ℕ) (ns : List Node) where
  abbrev Here : ℕ → Type 0
  Here t = Shape (record { tag = t; argument = m } ∷ ns) p (e ∷ d ∷ due)

  shape-variable : e ≡ suc p → Shape ns (suc p) (d ∷ due) → Here 0
  shape-variable h r = record { codes = var m ∷ r.codes; whole = rw r.whole; close = cc (add-one p, r.close) }

  shape-binder : Shape ns (suc p) (e ∷ d ∷ due) → Here 1
  shape-binder r = go r.codes r.whole r.close
    where
      go : (cs : List Code) → forest ns ≡ some cs → e ∷ d ∷ due ≡ closings (suc p) cs → Here 1
      go [] w l = absurd (omega (arith, ap length l))
      go (c ∷ cs) w l = record { codes = abs m c ∷ cs; whole = rw w; close = l ∙ ap (λ (k : ℕ). k ∷ closings k cs) end }
        where
          end : suc p + size c ≡ p + (1 + size c)
          end = omega arith

  shape-application : Shape ns (suc p) ((suc p + m) ∷ e ∷ d ∷ due) → Here 2
  shape-application r = go r.codes r.whole r.close
    where
      go : (cs : List Code) → forest ns ≡ some cs → (suc p + m) ∷ e ∷ d ∷ due ≡ closings (suc p) cs → Here 2
      go [] w l = absurd (omega (arith, ap length l))
      go (c ∷ []) w l = absurd (omega (arith, ap length l))
      go (c ∷ c' ∷ cs) w l =
          record {
            codes = app c c' ∷ cs;
            whole = rw (w, eq-eqb m (size c) left);
            close = right ∙ ap (λ (k : ℕ). k ∷ closings k cs) end;
          }
        where
          right : e ∷ d ∷ due ≡ closings (suc p + size c) (c' ∷ cs)
          right = cc

          left : m ≡ size c
          left = omega (arith, ap (λ (l : List ℕ). get_or l 0 0) l)

          end : suc p + size c + size c' ≡ p + (1 + size c + size c')
          end = omega arith

other_tag : (t j : ℕ) → j ≤ 2 → eqb (suc (suc (suc t))) j ≡ false
other_tag t j h = ne_eqb (suc (suc (suc t))) j (λ e. omega arith)

-- nodes that pass, up to the last of them, have this shape
passes-shape : (ns : List Node) (f n p k : ℕ) (due es : List ℕ) → Closes n p due → n ≡ p + length ns → passes f p due es ns ≡ Some k → Shape ns p due
passes-shape [] f n p k [] es h e q = absurd h
passes-shape [] f n p k (d ∷ []) es h e q = record { codes = []; whole = refl; close = ap (λ (i : ℕ). i ∷ []) h.0 }
passes-shape [] f n p k (d ∷ d' ∷ due) es h e q = absurd (failed-passed (rw (ne_eqb d 0 (λ z. omega (arith, h.0))) at q))
passes-shape (node ∷ ns) f n p k [] es h e q = absurd h
passes-shape (node ∷ ns) f n p k (d ∷ []) es h e q = absurd (omega (arith, h.1))
passes-shape (node ∷ ns) f n p k (d ∷ d' ∷ due) es h e q =
    go node.tag (λ l ds c r. passes-shape ns f n (suc p) k l ds c (omega arith) r) q
  where
    go : (t : ℕ) → ((l ds : List ℕ) → Closes n (suc p) l → passes f (suc p) l ds ns ≡ Some k → Shape ns (suc p) l)
        → passes f p (d ∷ d' ∷ due) es (record { tag = t; argument = node.argument } ∷ ns) ≡ Some k
        → Shape (record { tag = t; argument = node.argument } ∷ ns) p (d ∷ d' ∷ due)
    go zero rest r =
        let next = cond-passed _ _ k r in
        let end : d ≡ suc p = eqb-true d (suc p) ((and-eq-true_iff (eqb d (suc p)) (sees f p es node.argument)).0 next.0).0 in
        shape-variable node.argument p d d' due ns end (rest (d' ∷ due) es (subst (λ (i : ℕ). Closes n i (d' ∷ due)) end h.2) next.1)
    go (suc zero) rest r =
        let next = cond-passed (eqb node.argument (f + length es)) _ k r in
        shape-binder node.argument p d d' due ns (rest (d ∷ d' ∷ due) (es ++ (d ∷ [])) h next.1)
    go (suc (suc zero)) rest r =
        let next = cond-passed (ltb (suc p + node.argument) d) _ k r in
        let left = ltb-true (suc p + node.argument) d next.0 in
        shape-application node.argument p d d' due ns
        (rest ((suc p + node.argument) ∷ d ∷ d' ∷ due) es (omega arith, omega (arith, h.1), h) next.1)
    go (suc (suc (suc t))) rest r =
        absurd (failed-passed (rw (other_tag t 0 (omega arith), other_tag t 1 (omega arith), other_tag t 2 (omega arith)) at r))

-- where one end is due, at n, the nodes are one code
shape-read : {ns : List Node} {n : ℕ} → Shape ns 0 (n ∷ 0 ∷ []) → (c : Code) × (read ns ≡ some c)
shape-read {ns} {n} r = go r.codes r.whole r.close
  where
    go : (cs : List Code) → forest ns ≡ some cs → n ∷ 0 ∷ [] ≡ closings 0 cs → (c : Code) × (read ns ≡ some c)
    go [] w l = absurd (omega (arith, ap length l))
    go (c ∷ []) w l = (c, ap single w)
    go (c ∷ d ∷ []) w l = absurd (omega (arith, ap length l))
    go (c ∷ d ∷ c' ∷ cs) w l = absurd (omega (arith, ap length l))

-- The pass over all nodes is the tests 4 to 7

passed_none : (r : Option ℕ) → ((k : ℕ) → r ≡ Some k → ⊥) → r ≡ None
passed_none (Some k) h = absurd (h k refl)
passed_none None h = refl

pub passes-nodes : (ns : List Node) {n : ℕ} → length ns ≡ n → 1 ≤ n → (f : ℕ) → tested f (read ns) ≡ passes f 0 (n ∷ 0 ∷ []) [] ns
passes-nodes ns {n} many least f =
    go (read ns) (read_is ns) (λ k e. shape-read (passes-shape ns f n 0 k (n ∷ 0 ∷ []) [] closes long e))
  where
    long : n ≡ 0 + length ns
    long = omega arith

    closes : Closes n 0 (n ∷ 0 ∷ [])
    closes = (least, omega arith, (refl, refl))

    go : (o : math.Option Code) → ((c : Code) → o ≡ some c → ns ≡ write c)
        → ((k : ℕ) → passes f 0 (n ∷ 0 ∷ []) [] ns ≡ Some k → (c : Code) × (o ≡ some c))
        → tested f o ≡ passes f 0 (n ∷ 0 ∷ []) [] ns
    go none is code = sym (passed_none _ (λ k e. none-ne-some (code k e).0 (code k e).1))
    go (some c) is code =
        sym
        (ap (passes f 0 (n ∷ 0 ∷ []) []) (is c refl ∙ sym (append-nil (write c)))
        ∙ passes-write c f 0 n (0 ∷ []) [] [] [] size_is (λ k j l u. le-ltb j 0 (omega arith))
        ∙ ap₂ (λ (k l : ℕ). cond (numbered k c && scoped f [] c) (Some l) None) (omega arith) (length-ends_in c 0))
      where
        size_is : n ≡ 0 + size c
        size_is = omega (arith, ap length (is c refl), length-write c)
