-- The step as a function, so that reductions compute. proofs/Agreement.antt shows that it agrees with the relation `Step`.
use Rattle.std.specs.Prelude.{ℕ, zero, suc, Bool, true, false, ◌&&◌, ◌||◌}
use Rattle.std.proofs.Math.Option.{Option, none, some}
use Rattle.fireball.specs.Term.{Term, free, bound, lam, app, put}

abbrev pub is_abstraction : Term → Bool
is_abstraction (free x) = false
is_abstraction (bound i) = false
is_abstraction (lam t) = true
is_abstraction (app t u) = false

-- whether a term is a variable applied to zero or more fireballs
abbrev pub is_inert : Term → Bool
is_inert (free x) = true
is_inert (bound i) = false
is_inert (lam t) = false
is_inert (app t u) = is_inert t && (is_abstraction u || is_inert u)

abbrev pub is_fireball : Term → Bool
is_fireball t = is_abstraction t || is_inert t

-- the step at the top of an application, where its left part is an abstraction
abbrev pub fire : Term → Term → Option Term
fire (free x) u = none
fire (bound i) u = none
fire (lam t) u = some (put 0 u t)
fire (app t s) u = none

-- the first of two answers that is one
abbrev pub first : Option Term → Option Term → Option Term
first none b = b
first (some t) b = some t

abbrev pub inside : (Term → Term) → Option Term → Option Term
inside f none = none
inside f (some t) = some (f t)

-- an answer that counts only where a test holds
abbrev pub provided : Bool → Option Term → Option Term
provided true a = a
provided false a = none

-- the one step that is possible, or none: the right part first, then the top, then the left part
abbrev pub next : Term → Option Term
next (free x) = none
next (bound i) = none
next (lam t) = none
next (app t u) = first (inside (app t) (next u)) (provided (is_fireball u) (first (fire t u) (inside (λ s. app s u) (next t))))

abbrev pub follow : Option Term → (Term → Option Term) → Option Term
follow none f = none
follow (some t) f = f t

-- n steps, where so many are possible
abbrev pub after : ℕ → Term → Option Term
after zero t = some t
after (suc n) t = follow (next t) (after n)
