-- The step function finds a step exactly where the relation has one, and the same. The idea: the tests agree with the definitions of
-- inert terms and fireballs, and the function tries the three places in turn.
-- Assumes nothing.
use Prim.Native.Nat.{ℕ, zero, suc}
use mathlib.Core.Path.{◌≡◌, refl, sym, subst, ◌∙◌}
use mathlib.Core.Bool.{Bool, true, false, ◌||◌, and-eq-true_iff, false≢true}
use mathlib.Core.Logic.{◌↔◌}
use mathlib.Core.Option.{Option, none, some, none-ne-some}
use Rattle.fireball.specs.Term.{Term, free, bound, lam, app}
use Rattle.fireball.specs.Calculus.{Inert, Fireball, Step, Reaches, variable, applied, abstraction, inert, top, right, left, done, more}
use Rattle.fireball.proofs.Determinism.{fireball-no-step}
use Rattle.fireball.specs.Stepping.{is_abstraction, is_inert, is_fireball, fire, first, inside, provided, next, follow, after}

mutual
  inert-is : {t : Term} → Inert t → is_inert t ≡ true
  inert-is (variable x) = refl
  inert-is (applied {t = t} {u = u} i f) = rw (inert-is i) (fireball-is f)

  pub fireball-is : {t : Term} → Fireball t → is_fireball t ≡ true
  fireball-is (abstraction t) = refl
  fireball-is (inert {t = t} i) = go (is_abstraction t) (inert-is i)
    where
      go : (q : Bool) → is_inert t ≡ true → (q || is_inert t) ≡ true
      go true e = refl
      go false e = e

fireball-of-inert : (t : Term) → (is_inert t ≡ true → Inert t) → is_fireball t ≡ true → Fireball t
fireball-of-inert (free x) h e = inert (variable x)
fireball-of-inert (bound i) h e = absurd (false≢true e)
fireball-of-inert (lam t) h e = abstraction t
fireball-of-inert (app t u) h e = inert (h e)

inert-of : (t : Term) → is_inert t ≡ true → Inert t
inert-of (free x) e = variable x
inert-of (bound i) e = absurd (false≢true e)
inert-of (lam t) e = absurd (false≢true e)
inert-of (app t u) e =
    let p = (and-eq-true_iff (is_inert t) (is_fireball u)).0 e in
    applied (inert-of t p.0) (fireball-of-inert u (inert-of u) p.1)

pub fireball-of : (t : Term) → is_fireball t ≡ true → Fireball t
fireball-of t e = fireball-of-inert t (inert-of t) e

-- what an answer of `next` says
abbrev Found : Term → Option Term → Type 0
Found t none = Unit {0}
Found t (some u) = Step t u

module _ (t u : Term) where
  in_left : (a : Option Term) → Fireball u → Found t a → Found (app t u) (inside (λ s. app s u) a)
  in_left none f h = tt
  in_left (some s) f h = left f h

  in_right : (a b : Option Term) → Found u a → Found (app t u) b → Found (app t u) (first (inside (app t) a) b)
  in_right none b h g = g
  in_right (some v) b h g = right t h

at_top : (t u : Term) (b : Option Term) → Fireball u → Found (app t u) b → Found (app t u) (first (fire t u) b)
at_top (free x) u b f h = h
at_top (bound i) u b f h = h
at_top (lam t) u b f h = top t u f
at_top (app t s) u b f h = h

if-provided : (t : Term) (q : Bool) (b : Option Term) → (q ≡ true → Found t b) → Found t (provided q b)
if-provided t true b h = h refl
if-provided t false b h = tt

found : (t : Term) → Found t (next t)
found (free x) = tt
found (bound i) = tt
found (lam t) = tt
found (app t u) =
    let below = found t in
    in_right t u (next u) _ (found u)
    (if-provided (app t u) (is_fireball u) _
    (λ e. at_top t u _ (fireball-of u e) (in_left t u (next t) (fireball-of u e) below)))

fireball-next : (t : Term) → Fireball t → next t ≡ none
fireball-next t f = go (next t) (found t)
  where
    go : (a : Option Term) → Found t a → a ≡ none
    go none h = refl
    go (some u) h = absurd (fireball-no-step f h)

step-fire : {t s : Term} (u : Term) → Step t s → fire t u ≡ none
step-fire u (top t v f) = refl
step-fire u (right t s) = refl
step-fire u (left f s) = refl

step-next : {t u : Term} → Step t u → next t ≡ some u
step-next (top t u f) = rw (fireball-next u f, fireball-is f)
step-next (right t s) = rw (step-next s)
step-next (left {u = u} f s) = rw (fireball-next u f, fireball-is f, step-fire u s, step-next s)

-- `next` finds a step exactly where there is one
pub next-agrees : (t u : Term) → (next t ≡ some u) ↔ Step t u
next-agrees t u = (λ e. subst (Found t) e (found t), step-next)

pub next-none : (t : Term) → next t ≡ none → (u : Term) → Step t u → ⊥
next-none t e u s = none-ne-some u (sym e ∙ step-next s)

-- what an answer of `after` says
abbrev Reached : ℕ → Term → Option Term → Type 0
Reached n t none = Unit {0}
Reached n t (some u) = Reaches n t u

reached-more : (n : ℕ) {t s : Term} (a : Option Term) → Step t s → Reached n s a → Reached (suc n) t a
reached-more n none q h = tt
reached-more n (some u) q h = more q h

reached : (n : ℕ) (t : Term) → Reached n t (after n t)
reached zero t = done
reached (suc n) t = go (reached n) (next t) (found t)
  where
    go : ((s : Term) → Reached n s (after n s)) → (a : Option Term) → Found t a → Reached (suc n) t (follow a (after n))
    go h none q = tt
    go h (some s) q = reached-more n (after n s) q (h s)

reaches-after : {n : ℕ} {t u : Term} → Reaches n t u → after n t ≡ some u
reaches-after done = refl
reaches-after (more s r) = rw (step-next s) (reaches-after r)

-- `after n` is what is reached in n steps
pub after-agrees : (n : ℕ) (t u : Term) → (after n t ≡ some u) ↔ Reaches n t u
after-agrees n t u = (λ e. subst (Reached n t) e (reached n t), reaches-after)
