-- Worked examples of source document 000, computed by the step function: Example 1 and the open size explosion of Proposition 3, which
-- is proved for every n as well.
-- Assumes nothing.
use Prim.Native.Nat.{ℕ, zero, suc}
use mathlib.Core.Path.{◌≡◌, refl}
use mathlib.Core.Bool.{true}
use mathlib.Core.Option.{some}
use Rattle.fireball.specs.Term.{Term, free, bound, lam, app, size}
use Rattle.fireball.specs.Calculus.{Inert, Reaches, variable, applied, inert, top, right, done, more}
use Rattle.fireball.specs.Stepping.{is_fireball, next, after}
use Rattle.fireball.proofs.Determinism.{reaches-snoc}

abbrev identity : Term
identity = lam (bound 0)

-- Example 1: (λz. z (y z)) (λx. x), with the free name 0 for y
abbrev example : Term
example = app (lam (app (bound 0) (app (free 0) (bound 0)))) identity

pub example-first : next example ≡ some (app identity (app (free 0) identity))
example-first = refl

pub example-second : after 2 example ≡ some (app (free 0) identity)
example-second = refl

pub example-end : is_fireball (app (free 0) identity) ≡ true
example-end = refl

-- Proposition 3: t_0 = y, t_(n+1) = (λx. x x) t_n; i_0 = y, i_(n+1) = i_n i_n
abbrev exploding : ℕ → Term
exploding zero = free 0
exploding (suc n) = app (lam (app (bound 0) (bound 0))) (exploding n)

abbrev exploded : ℕ → Term
exploded zero = free 0
exploded (suc n) = app (exploded n) (exploded n)

-- n = 2: (λx. x x) ((λx. x x) y) reaches (y y) (y y)
pub exploding-two : after 2 (exploding 2) ≡ some (app (app (free 0) (free 0)) (app (free 0) (free 0)))
exploding-two = refl

-- ten steps from 51 nodes to 2047
pub exploding-ten : (after 10 (exploding 10) ≡ some (exploded 10)) × (size (exploding 10) ≡ 51) × (size (exploded 10) ≡ 2047)
exploding-ten = (refl, refl, refl)

reaches-right : {n : ℕ} (t : Term) {u v : Term} → Reaches n u v → Reaches n (app t u) (app t v)
reaches-right t done = done
reaches-right t (more s r) = more (right t s) (reaches-right t r)

pub exploded-inert : (n : ℕ) → Inert (exploded n)
exploded-inert zero = variable 0
exploded-inert (suc n) = applied (exploded-inert n) (inert (exploded-inert n))

pub exploding-reaches : (n : ℕ) → Reaches n (exploding n) (exploded n)
exploding-reaches zero = done
exploding-reaches (suc n) =
    reaches-snoc (reaches-right _ (exploding-reaches n)) (top (app (bound 0) (bound 0)) (exploded n) (inert (exploded-inert n)))
