-- A turn of the loop of `test_nodes`. The idea: the array has the ends of the abstractions seen in front, and what is due behind the present
-- end from `top` on. So an abstraction puts one behind the former, an application puts one in front of the latter, a variable takes the
-- first of these off, and each is one step of the pass. The two never meet. Letters: ns are n nodes, f is the count of free names, i the
-- place of a node with the tag t and the argument m.
-- Assumes nothing.
use Prim.Native.Nat.{ℕ, suc, ◌+◌, ◌-◌, ◌≤◌, ◌<◌}
use mathlib.Core.Path.{◌≡◌, refl, sym, ap, ap₂, subst, ◌∙◌}
use mathlib.Core.Bool.{true, false, cond, and-false}
use mathlib.Core.List.{List, [], ◌∷◌}
use native.Mathlib.Omega.{arith}
use native.Mathlib.Numerals.{add-one}
use lib.Dec.{eqb}
use lib.ListN.{length, get_or, take, drop, set, length-drop, length-set, drop_of_length-le}
use lib.Seq.{drop-cons, length-take-le, drop-set-lt, take-set-le}
use borrow.Author.Tests.{lt-ltb, le-ltb, eq-eqb, ne_eqb}
use Rattle.termfile.specs.Nodes.{Node, read}
use Rattle.termfile.specs.Passes.{tested}
use Rattle.std.specs.Prelude.{Some, None}
use Rattle.termfile.proofs.Sets.{drop-set}
use Rattle.termfile.proofs.Visibility.{sees, ends_more}
use Rattle.termfile.proofs.Forward.{passes, passes-nodes, Closes}

-- before node i: `seen` abstractions have been passed, and the rest of the pass decides
pub record Passing (ns : List Node) (n f : ℕ) (ends : List ℕ) (top end seen i : ℕ) : Type 0 where
  pub within : i ≤ n
  pub few : seen ≤ i
  pub room : length ends + seen ≤ top + i + 1
  pub closes : Closes n i (end ∷ drop top ends)
  pub same : tested f (read ns) ≡ passes f i (end ∷ drop top ends) (take seen ends) (drop i ns)

-- at node i, which has been read
pub record Turn (ns : List Node) (n f : ℕ) (ends : List ℕ) (top end seen i t m : ℕ) : Type 0 where
  pub long : n < length ends
  pub passing : Passing ns n f ends top end seen i
  pub left : i < n
  pub node : drop i ns ≡ record { tag = t; argument = m } ∷ drop (i + 1) ns

-- the start, with a 0 stored in the last place
pub passing-start : (ns : List Node) {n : ℕ} → length ns ≡ n → 1 ≤ n → (f : ℕ) (ends : List ℕ) → n < length ends
    → Passing ns n f (set ends (length ends - 1) 0) (length ends - 1) n 0 0
passing-start ns {n} many least f ends h =
    record {
      within = omega arith;
      few = omega arith;
      room = simp length-set (omega arith);
      closes = rw bottom (least, omega arith, (refl, refl));
      same = rw bottom (passes-nodes ns many least f);
    }
  where
    last : length ends ≤ suc (length ends - 1)
    last = omega arith

    bottom : drop (length ends - 1) (set ends (length ends - 1) 0) ≡ 0 ∷ []
    bottom =
        drop-set ends (length ends - 1) 0 (omega arith)
        ∙ ap (λ (l : List ℕ). 0 ∷ l) (drop_of_length-le ends last)

-- the end
pub passing-end : {ns : List Node} {n f : ℕ} {ends : List ℕ} {top end seen i : ℕ} → n < length ends
    → Passing ns n f ends top end seen i → drop i ns ≡ [] → tested f (read ns) ≡ cond (eqb end 0) (Some seen) None
passing-end {ends = ends} {end = end} {seen = seen} {i = i} long p e =
    p.same ∙ rw (e, length-take-le seen ends (omega (arith, p.few, p.within)))

module _ {ns : List Node} {n f : ℕ} {ends : List ℕ} {top end seen i t m : ℕ} (u : Turn ns n f ends top end seen i t m) where
  abbrev p : Passing ns n f ends top end seen i
  p = u.passing

  -- the pass from node i on
  here : tested f (read ns) ≡ passes f i (end ∷ drop top ends) (take seen ends) (record { tag = t; argument = m } ∷ drop (i + 1) ns)
  here = p.same ∙ ap (passes f i (end ∷ drop top ends) (take seen ends)) u.node

  length-ends : length (take seen ends) ≡ seen
  length-ends = length-take-le seen ends (omega (arith, u.long, p.within, p.few))

  -- as a node is left, something is due behind the present end
  behind : (l : List ℕ) → Closes n i (end ∷ l) → (0 < end) × (end ≤ n) × (0 < length l) × Closes n end l
  behind [] c = absurd (omega (arith, c.1, u.left))
  behind (d ∷ l) c = (c.0, c.1, omega arith, c.2)

  -- an end that is not the last is due at any place
  still : (j : ℕ) (l : List ℕ) → Closes n i (end ∷ l) → 0 < length l → Closes n j (end ∷ l)
  still j [] c h = absurd (omega arith)
  still j (d ∷ l) c h = c

  abbrev more : (0 < end) × (end ≤ n) × (0 < length (drop top ends)) × Closes n end (drop top ends)
  more = behind (drop top ends) p.closes

  pub end-most : end ≤ n
  end-most = more.1

  pub due-more : top < length ends
  due-more = omega (arith, more.2, length-drop top ends)

  -- Where the pass fails

  pub fails-end : t ≡ 0 → (end ≡ i + 1 → ⊥) → tested f (read ns) ≡ None
  fails-end a b = here ∙ rw (eq-eqb t 0 a, ne_eqb end (suc i) (λ e. b (omega arith)))

  pub fails-scope : t ≡ 0 → sees f i (take seen ends) m ≡ false → tested f (read ns) ≡ None
  fails-scope a b = here ∙ rw (eq-eqb t 0 a, b, and-false (eqb end (suc i)))

  pub fails-name : t ≡ 1 → (m ≡ f + seen → ⊥) → tested f (read ns) ≡ None
  fails-name a b = here ∙ rw (a, length-ends, ne_eqb m (f + seen) b)

  pub fails-left : t ≡ 2 → end ≤ i + 1 + m → tested f (read ns) ≡ None
  fails-left a b = here ∙ rw (a, le-ltb (suc i + m) end (omega arith))

  pub fails-tag : (t ≡ 0 → ⊥) → (t ≡ 1 → ⊥) → (t ≡ 2 → ⊥) → tested f (read ns) ≡ None
  fails-tag a b c = here ∙ rw (ne_eqb t 0 a, ne_eqb t 1 b, ne_eqb t 2 c)

  -- Where it goes on

  -- a variable: what is due next is taken off
  pub variable-next : t ≡ 0 → end ≡ i + 1 → sees f i (take seen ends) m ≡ true → Passing ns n f ends (top + 1) (get_or ends top 0) seen (i + 1)
  variable-next a b c =
      record {
        within = omega arith;
        few = omega arith;
        room = omega arith;
        closes = subst (Closes n (i + 1)) off (subst (λ (e : ℕ). Closes n e (drop top ends)) b more.3);
        same =
            here
            ∙ rw (eq-eqb t 0 a, eq-eqb end (suc i) (omega arith), c)
            (ap₂ (λ (j : ℕ) (l : List ℕ). passes f j l (take seen ends) (drop (i + 1) ns)) (sym (add-one i)) off);
      }
    where
      off : drop top ends ≡ get_or ends top 0 ∷ drop (top + 1) ends
      off = drop-cons ends top 0 due-more ∙ cc (add-one top)

  -- the two ends of the array do not meet
  pub apart : seen < top
  apart = omega (arith, u.long, p.room, u.left)

  -- an abstraction: where it has to end is stored
  pub binder-next : t ≡ 1 → m ≡ f + seen → Passing ns n f (set ends seen end) top end (seen + 1) (i + 1)
  binder-next a b =
      record {
        within = omega arith;
        few = omega arith;
        room = simp length-set (omega arith);
        closes = rw due (still (i + 1) (drop top ends) p.closes more.2);
        same =
            here
            ∙ rw (a, length-ends, eq-eqb m (f + seen) b, due)
            (ap₂ (λ (j : ℕ) (es : List ℕ). passes f j (end ∷ drop top ends) es (drop (i + 1) ns)) (sym (add-one i))
            (sym (ends_more ends seen end (omega (arith, apart, due-more)))));
      }
    where
      due : drop top (set ends seen end) ≡ drop top ends
      due = drop-set-lt top ends seen end apart

  -- an application: where it has to end is put in front of what is due, and its left part is the present subterm
  pub application-next : t ≡ 2 → i + 1 + m < end → Passing ns n f (set ends (top - 1) end) (top - 1) (i + 1 + m) seen (i + 1)
  application-next a b =
      record {
        within = omega arith;
        few = omega arith;
        room = simp length-set (omega (arith, apart));
        closes = rw on (omega arith, omega (arith, end-most), still (i + 1 + m) (drop top ends) p.closes more.2);
        same =
            here
            ∙ rw (a, lt-ltb (suc i + m) end (omega arith), take-set-le seen ends (top - 1) end (omega (arith, apart)))
            (ap₂ (λ (j : ℕ) (l : List ℕ). passes f j ((j + m) ∷ l) (take seen ends) (drop (i + 1) ns)) (sym (add-one i)) (sym on));
      }
    where
      above : suc (top - 1) ≡ top
      above = omega (arith, apart)

      on : drop (top - 1) (set ends (top - 1) end) ≡ end ∷ drop top ends
      on = drop-set ends (top - 1) end (omega (arith, due-more)) ∙ ap (λ (j : ℕ). end ∷ drop j ends) above
