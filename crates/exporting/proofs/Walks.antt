-- What holds of measuring at each turn, at its start and at its end. The invariant: the nodes from i on are those of the codes that are to be
-- passed, and the bits of the nodes before them, with those of these codes behind, are the bits of the term.
-- Assumes nothing.
use Prim.Native.Nat.{ℕ, suc, ◌+◌, ◌*◌, ◌≤◌, ◌<◌}
use mathlib.Core.Path.{◌≡◌, refl, sym, ap, ◌∙◌, subst⁻¹}
use mathlib.Core.List.{List, [], ◌∷◌, ◌++◌, append_assoc, append-nil}
use native.Mathlib.Omega.{arith}
use native.Mathlib.Numerals.{add-one}
use lib.ListN.{length, get_or, take, drop}
use lib.Seq.{take-suc, take_all, length-take-le}
use Rattle.termfile.specs.Code.{Code, var, abs, app}
use Rattle.termfile.specs.Meaning.{term_of}
use Rattle.termfile.specs.Nodes.{write}
use Rattle.termfile.specs.File.{tags, nodes}
use Rattle.termfile.specs.Passes.{Framed}
use Rattle.termfile.proofs.Bytes as bytes
use Rattle.termfile.proofs.Frame.{exact, nodes-end}
use Rattle.binary.specs.Bits.{bits}
use Rattle.binary.specs.Stacks.{Stacked}
use Rattle.exporting.specs.Tokens.{token, tokens, Coded}
use Rattle.exporting.specs.Measuring.{Measures}
use Rattle.exporting.proofs.Items.{Item, part, nodes_of, bits_of, depths_of, Items}
use Rattle.exporting.specs.declared.measuring.Walk.{Walk}

-- Bits node by node

tokens-snoc : (ts ks : List ℕ) (t k : ℕ) → length ts ≡ length ks → tokens (ts ++ (t ∷ [])) (ks ++ (k ∷ [])) ≡ tokens ts ks ++ token t k
tokens-snoc [] [] t k e = append-nil (token t k)
tokens-snoc [] (j ∷ ks) t k e = absurd (omega arith)
tokens-snoc (s ∷ ts) [] t k e = absurd (omega arith)
tokens-snoc (s ∷ ts) (j ∷ ks) t k e =
    ap (λ l. token s j ++ l) (tokens-snoc ts ks t k (omega arith)) ∙ sym (append_assoc (token s j) (tokens ts ks) (token t k))

pub tokens-next : (ts ks : List ℕ) (i t k : ℕ) → i < length ts → i < length ks → get_or ts i 0 ≡ t → get_or ks i 0 ≡ k
    → tokens (take (i + 1) ts) (take (i + 1) ks) ≡ tokens (take i ts) (take i ks) ++ token t k
tokens-next ts ks i t k h g e d =
    ap (λ j. tokens (take j ts) (take j ks)) (add-one i)
    ∙ ap (λ l. tokens l (take (suc i) ks)) (take-suc ts i 0 h ∙ ap (λ y. take i ts ++ (y ∷ [])) e)
    ∙ ap (tokens (take i ts ++ (t ∷ []))) (take-suc ks i 0 g ∙ ap (λ y. take i ks ++ (y ∷ [])) d)
    ∙ tokens-snoc (take i ts) (take i ks) t k (length-take-le i ts (omega arith) ∙ sym (length-take-le i ks (omega arith)))

-- the code that is next stands where the walk is, and those behind it on the stack
abbrev pub Here : Walk → List ℕ → List Item → Type 0
Here w ds [] = Unit {0}
Here w ds (part ys c ∷ todo) = (w.depth ≡ length ys) × (w.pending ≡ length todo) × Stacked ds (depths_of todo)

pub record Walking (s : List ℕ) (f : ℕ) (c : Code) (i : ℕ) (ks ls ds : List ℕ) (w : Walk) (todo : List Item) (low : ℕ) : Type 0 where
  pub nodes_are : drop i (nodes s) ≡ nodes_of todo
  pub items : Items f ls low low todo
  pub free_low : f ≤ low
  pub passed : low ≤ f + i
  pub here : Here w ds todo
  pub many : length todo ≤ i + 1
  pub bits_are : tokens (take i (tags s)) (take i ks) ++ bits_of todo ≡ bits 0 (term_of c)
  pub total_is : w.total ≡ length (tokens (take i (tags s)) (take i ks))
  pub total_few : w.total ≤ 32770 * i

pub record Walks (s : List ℕ) (f : ℕ) (c : Code) (i : ℕ) (ks ls ds : List ℕ) (w : Walk) : Type 0 where
  pub todo : List Item
  pub low : ℕ
  pub walking : Walking s f c i ks ls ds w todo low

pub walks-first : (s : List ℕ) (n f : ℕ) (c : Code) (ks ls ds : List ℕ) → Coded s n f c → Walks s f c 0 ks ls ds (record { depth = 0; pending = 0; total = 0 })
walks-first s n f c ks ls ds h =
    record {
      todo = part [] c ∷ [];
      low = f;
      walking =
          record {
            nodes_are = h.nodes_are ∙ sym (append-nil (write c));
            items = (record { levels_are = tt; few = omega arith; in_order = h.in_order; in_scope = h.in_scope }, tt);
            free_low = omega arith;
            passed = omega arith;
            here = (refl, refl, tt);
            many = omega arith;
            bits_are = append-nil (bits 0 (term_of c));
            total_is = refl;
            total_few = omega arith;
          };
    }

-- at the end no code is left
pub walks-last : {s : List ℕ} {f : ℕ} {c : Code} {i : ℕ} {ks ls ds : List ℕ} {w : Walk} → Walks s f c i ks ls ds w → drop i (nodes s) ≡ []
    → tokens (take i (tags s)) (take i ks) ≡ bits 0 (term_of c)
walks-last {s} {f} {c} {i} {ks} {ls} {ds} {w} h e = go h.todo h.walking
  where
    go : (todo : List Item) → Walking s f c i ks ls ds w todo h.low → tokens (take i (tags s)) (take i ks) ≡ bits 0 (term_of c)
    go [] g = sym (append-nil (tokens (take i (tags s)) (take i ks))) ∙ g.bits_are
    go (part ys (var x) ∷ todo) g = let z : ◌≡◌ {A = ℕ} 0 1 = cc (e, g.nodes_are) in absurd (omega arith)
    go (part ys (abs x d) ∷ todo) g = let z : ◌≡◌ {A = ℕ} 0 1 = cc (e, g.nodes_are) in absurd (omega arith)
    go (part ys (app d b) ∷ todo) g = let z : ◌≡◌ {A = ℕ} 0 1 = cc (e, g.nodes_are) in absurd (omega arith)

-- what is measured once all nodes are passed
pub measured : {s : List ℕ} {n : ℕ} (framed : Framed s n) (f : ℕ) (ks ls ds : List ℕ) (w : Walk) (c : Code) (i : ℕ) → i ≡ n → Walks s f c i ks ls ds w
    → Measures s n ks c w.total
measured {s} {n} framed f ks ls ds w c i e h =
    let all = walks-last h (nodes-end framed i (omega arith)) in
    let whole : take i (tags s) ≡ tags s = take_all i (tags s) (omega (arith, bytes.length-tags s (exact framed), framed.count)) in
    record {
      bits_are = ap (λ j. tokens (tags s) (take j ks)) (sym e) ∙ ap (λ l. tokens l (take i ks)) (sym whole) ∙ all;
      count = h.walking.total_is ∙ ap length all;
      few = omega (arith, h.walking.total_few);
    }

-- the same with arrays and a walk that are told in another way
pub walks-as : {s : List ℕ} {f : ℕ} {c : Code} {i : ℕ} {ks ls ls' ds ds' : List ℕ} {w w' : Walk} → ls' ≡ ls → ds' ≡ ds → w' ≡ w
    → Walks s f c i ks ls ds w → Walks s f c i ks ls' ds' w'
walks-as {s} {f} {c} {i} {ks} {ls} {ls'} {ds} {ds'} {w} {w'} p q r h =
    subst⁻¹ (λ x. Walks s f c i ks x ds' w') p (subst⁻¹ (λ x. Walks s f c i ks ls x w') q (subst⁻¹ (Walks s f c i ks ls ds) r h))
