-- Stores: one seen from its place on, and stores in a row, one list behind another and a store before them.
-- Assumes nothing.
use Prim.Native.Nat.{ℕ, suc, ◌+◌, ◌≤◌, ◌<◌}
use mathlib.Core.Path.{◌≡◌, refl, ap, ap₂, ◌∙◌}
use mathlib.Core.List.{List, [], ◌∷◌, ◌++◌}
use native.Mathlib.Omega.{arith}
use lib.ListN.{length, set, drop, length-set}
use lib.Seq.{sets, sets-eq, set_comm, drop-cons, get_or-set_same, drop-set-lt}
use Rattle.termfile.specs.Output.{overlay}

-- a list from the place of a store on
pub drop-set : (l : List ℕ) (j k : ℕ) → j < length l → drop j (set l j k) ≡ k ∷ drop (suc j) l
drop-set l j k h =
    drop-cons (set l j k) j 0 (simp length-set h) ∙ ap₂ ◌∷◌ (get_or-set_same l j k 0 h) (drop-set-lt (suc j) l j k (omega arith))

-- stores of one list and then of another behind it
pub sets-append : (ts us : List ℕ) (at : ℕ) (l : List ℕ) → sets (sets l at ts) (at + length ts) us ≡ sets l at (ts ++ us)
sets-append [] us at l = ap (λ k. sets l k us) (omega arith)
sets-append (t ∷ ts) us at l =
    ap (λ k. sets (sets (set l at t) (suc at) ts) k us) (omega arith) ∙ sets-append ts us (suc at) (set l at t)

-- a store before a list may be made first
pub set_before : (us : List ℕ) (at k v : ℕ) (l : List ℕ) → k < at → set (sets l at us) k v ≡ sets (set l k v) at us
set_before [] at k v l h = refl
set_before (u ∷ us) at k v l h =
    set_before us (suc at) k v (set l at u) (omega arith) ∙ ap (λ m. sets m (suc at) us) (set_comm l at k u v (λ e. omega arith))

-- a list that is stored from the front on is laid over the array
pub sets-front : (ts l : List ℕ) → length ts ≤ length l → sets l 0 ts ≡ overlay ts l
sets-front ts l h =
    let e : 0 + length ts ≡ length ts = omega arith in
    sets-eq ts l 0 (omega arith) ∙ ap (λ k. ts ++ drop k l) e
