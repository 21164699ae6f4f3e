-- 01, The calculus: "None is possible exactly when the term is a fireball", for terms with no loose index.
-- Assumes nothing.
use mathlib.Core.Logic.{◌⊎◌, inl, inr, ◌↔◌}
use Rattle.fireball.specs.Term.{Term, free, bound, lam, app, Whole}
use Rattle.fireball.specs.Calculus.{Fireball, Step, variable, applied, abstraction, inert, top, right, left}
use Rattle.fireball.proofs.Determinism.{fireball-no-step}
use native.Mathlib.Omega.{arith}

-- an application whose parts are fireballs is inert, or steps at the top
apply : {t u : Term} → Fireball t → Fireball u → Fireball (app t u) ⊎ ((v : Term) × Step (app t u) v)
apply (abstraction t) f = inr (_, top t _ f)
apply (inert i) f = inl (inert (applied i f))

-- a term with no loose index is a fireball or has a step
pub progress : (t : Term) → Whole t → Fireball t ⊎ ((u : Term) × Step t u)
progress (free x) l = inl (inert (variable x))
progress (bound i) l = absurd (omega arith)
progress (lam t) l = inl (abstraction t)
progress (app t u) l = go (progress t l.0) (progress u l.1)
  where
    go : Fireball t ⊎ ((v : Term) × Step t v) → Fireball u ⊎ ((v : Term) × Step u v) → Fireball (app t u) ⊎ ((v : Term) × Step (app t u) v)
    go p (inr q) = inr (app t q.0, right t q.1)
    go (inl p) (inl q) = apply p q
    go (inr p) (inl q) = inr (app p.0 u, left q p.1)

pub harmony : (t : Term) → Whole t → Fireball t ↔ ((u : Term) → Step t u → ⊥)
harmony t l = (λ f u s. fireball-no-step f s, λ n. go (progress t l) n)
  where
    go : Fireball t ⊎ ((u : Term) × Step t u) → ((u : Term) → Step t u → ⊥) → Fireball t
    go (inl f) n = f
    go (inr s) n = absurd (n s.0 s.1)
