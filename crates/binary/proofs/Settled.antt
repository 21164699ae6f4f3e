-- The refusals come in bit order: an answer other than 14 is settled by the bits up to it, and no bits behind them change it.
-- Assumes nothing.
use Prim.Native.Nat.{ℕ, suc, ◌+◌}
use mathlib.Core.Path.{◌≡◌, refl}
use mathlib.Core.Bool.{Bool, true, false, ◌&&◌}
use mathlib.Core.List.{List, [], ◌∷◌, ◌++◌}
use lib.Dec.{ltb}
use Rattle.termfile.specs.File.{max_nodes}
use Rattle.binary.specs.Reading.{Place, body, left, depth, Next, done, part, ended, variable, Begun, nothing, a_zero, ones, Reading, unread, read, within, onward, reading}

-- an answer with more bits behind the term
abbrev pub extended : List Bool → Reading → Reading
extended cs (unread k) = unread k
extended cs (read t bs) = read t (bs ++ cs)

-- the test of the last bit of an abstraction or an application
within-settled : (cs : List Bool) (q : Bool) (r s : Reading) → ((r ≡ unread 14 → ⊥) → s ≡ extended cs r) → (within q r ≡ unread 14 → ⊥)
    → within q s ≡ extended cs (within q r)
within-settled cs true r s e h = e h
within-settled cs false r s e h = refl

-- that of a variable
onward-settled : (cs bs : List Bool) (q : Bool) (x : Next) (go stay : Place → Reading)
    → ((p : Place) → (go p ≡ unread 14 → ⊥) → stay p ≡ extended cs (go p)) → (within q (onward x bs go) ≡ unread 14 → ⊥)
    → within q (onward x (bs ++ cs) stay) ≡ extended cs (within q (onward x bs go))
onward-settled cs bs true (done t) go stay e h = refl
onward-settled cs bs true (part p) go stay e h = e p h
onward-settled cs bs false x go stay e h = refl

pub reading-settled : (f : ℕ) (cs bs : List Bool) (b : Begun) (p : Place) (n : ℕ) → (reading f b p n bs ≡ unread 14 → ⊥)
    → reading f b p n (bs ++ cs) ≡ extended cs (reading f b p n bs)
reading-settled f cs [] b p n h = absurd (h refl)
reading-settled f cs (false ∷ bs) nothing p n h = reading-settled f cs bs a_zero p n h
reading-settled f cs (true ∷ bs) nothing p n h = reading-settled f cs bs (ones 0) p n h
reading-settled f cs (false ∷ bs) a_zero p n h =
    within-settled cs (ltb n max_nodes) (reading f nothing (body p) (suc n) bs) (reading f nothing (body p) (suc n) (bs ++ cs))
    (reading-settled f cs bs nothing (body p) (suc n)) h
reading-settled f cs (true ∷ bs) a_zero p n h =
    within-settled cs (ltb n max_nodes) (reading f nothing (left p) (suc n) bs) (reading f nothing (left p) (suc n) (bs ++ cs))
    (reading-settled f cs bs nothing (left p) (suc n)) h
reading-settled f cs (true ∷ bs) (ones k) p n h = reading-settled f cs bs (ones (suc k)) p n h
reading-settled f cs (false ∷ bs) (ones k) p n h =
    onward-settled cs bs (ltb n max_nodes && ltb k (depth p + f)) (ended p (variable (depth p) k)) (λ q. reading f nothing q (suc n) bs)
    (λ q. reading f nothing q (suc n) (bs ++ cs)) (λ q. reading-settled f cs bs nothing q (suc n)) h
