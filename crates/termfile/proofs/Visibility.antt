-- Refusal 7 told from where the abstractions end. The idea: in a pass left to right, an abstraction that has been passed is around a
-- position exactly when its end is still to come. Letters: p q j are positions, es has the ends of the abstractions passed, x a name, k its
-- place among the abstractions' names.
-- Assumes nothing.
use Prim.Native.Nat.{ℕ, zero, suc, ◌+◌, ◌-◌, ◌≤◌, ◌<◌}
use mathlib.Core.Path.{◌≡◌, refl, sym, ap, ◌∙◌}
use mathlib.Core.Bool.{Bool, true, false, ◌||◌}
use mathlib.Core.List.{List, [], ◌∷◌, ◌++◌}
use native.Mathlib.Omega.{arith}
use native.Mathlib.Numerals.{add-one}
use lib.Dec.{eqb, ltb}
use lib.ListN.{length, get_or, take, set, length-append}
use lib.Seq.{get_or-append_seam, take-suc-set}
use borrow.Author.Tests.{lt-ltb, le-ltb, eqb-true, eqb-false, ltb-false}
use Rattle.termfile.specs.Code.{Code, var, abs, app, size, abstractions, member}

-- at position p: the name x is free, or is that of an abstraction passed whose end is still to come
abbrev pub sees : ℕ → ℕ → List ℕ → ℕ → Bool
sees f p es x = ltb x f || ltb p (get_or es (x - f) 0)

-- the ends of the abstractions of a code that starts at p
abbrev pub ends_in : ℕ → Code → List ℕ
ends_in p (var x) = []
ends_in p (abs x c) = (p + size (abs x c)) ∷ ends_in (suc p) c
ends_in p (app c d) = ends_in (suc p) c ++ ends_in (suc p + size c) d

-- every number of a list is at most q
abbrev pub Most : ℕ → List ℕ → Type 0
Most q es = (k : ℕ) → get_or es k 0 ≤ q

most-append : (q : ℕ) (es ds : List ℕ) → Most q es → Most q ds → Most q (es ++ ds)
most-append q [] ds h k i = k i
most-append q (e ∷ es) ds h k zero = h 0
most-append q (e ∷ es) ds h k (suc i) = most-append q es ds (λ j. h (suc j)) k i

pub ends_in-most : (c : Code) (p q : ℕ) → p + size c ≤ q → Most q (ends_in p c)
ends_in-most (var x) p q h k = omega arith
ends_in-most (abs x c) p q h zero = h
ends_in-most (abs x c) p q h (suc k) = ends_in-most c (suc p) q (omega arith) k
ends_in-most (app c d) p q h k =
    most-append q (ends_in (suc p) c) (ends_in (suc p + size c) d) (ends_in-most c (suc p) q (omega arith))
    (ends_in-most d (suc p + size c) q (omega arith)) k

pub length-ends_in : (c : Code) (p : ℕ) → length (ends_in p c) ≡ abstractions c
length-ends_in (var x) p = refl
length-ends_in (abs x c) p = omega (arith, length-ends_in c (suc p))
length-ends_in (app c d) p = omega (arith, length-ends_in c (suc p), length-ends_in d (suc p + size c), length-append (ends_in (suc p) c) (ends_in (suc p + size c) d))

-- from p up to q, the names whose ends are still to come are those around
abbrev pub Agrees : ℕ → List ℕ → List ℕ → ℕ → ℕ → Type 0
Agrees f around es p q = (k j : ℕ) → p ≤ j → j < q → ltb j (get_or es k 0) ≡ member (f + k) around

-- ends that have passed change nothing
past-ends : (es ds : List ℕ) (k j : ℕ) → Most j ds → ltb j (get_or (es ++ ds) k 0) ≡ ltb j (get_or es k 0)
past-ends [] ds k j h = le-ltb j (get_or ds k 0) (h k) ∙ sym (le-ltb j 0 (omega arith))
past-ends (e ∷ es) ds zero j h = refl
past-ends (e ∷ es) ds (suc k) j h = past-ends es ds k j h

pub agrees-later : (f : ℕ) (around es ds : List ℕ) (p p' q : ℕ) → Agrees f around es p q → p ≤ p' → Most p' ds → Agrees f around (es ++ ds) p' q
agrees-later f around es ds p p' q a h m k j l u = past-ends es ds k j (λ i. let most = m i in omega arith) ∙ a k j (omega arith) u

-- one more abstraction, which ends at q
other-ends : (es : List ℕ) (q k : ℕ) → (k ≡ length es → ⊥) → get_or (es ++ (q ∷ [])) k 0 ≡ get_or es k 0
other-ends [] q zero h = absurd (h refl)
other-ends [] q (suc k) h = refl
other-ends (e ∷ es) q zero h = refl
other-ends (e ∷ es) q (suc k) h = other-ends es q k (λ e'. h (ap suc e'))

pub agrees-binder : (f : ℕ) (around es : List ℕ) (x p q : ℕ) → Agrees f around es p q → x ≡ f + length es → Agrees f (x ∷ around) (es ++ (q ∷ [])) (suc p) q
agrees-binder f around es x p q a e k j l u = go (eqb (f + k) x) (eqb-true (f + k) x) (eqb-false (f + k) x)
  where
    go : (b : Bool) → (b ≡ true → f + k ≡ x) → (b ≡ false → f + k ≡ x → ⊥) → ltb j (get_or (es ++ (q ∷ [])) k 0) ≡ b || member (f + k) around
    go true y n = ap (λ (i : ℕ). ltb j (get_or (es ++ (q ∷ [])) i 0)) place ∙ ap (ltb j) (get_or-append_seam es q [] 0) ∙ lt-ltb j q u
      where
        place : k ≡ length es
        place = omega (arith, y refl)
    go false y n = ap (ltb j) (other-ends es q k (λ h. n refl (omega arith))) ∙ a k j (omega arith) u

pub sees-member : (f : ℕ) (around es : List ℕ) (p q x : ℕ) → Agrees f around es p q → p < q → sees f p es x ≡ ltb x f || member x around
sees-member f around es p q x a h = go (ltb x f) (ltb-false x f)
  where
    go : (b : Bool) → (b ≡ false → f ≤ x) → b || ltb p (get_or es (x - f) 0) ≡ b || member x around
    go true l = refl
    go false l = a (x - f) p (omega arith) h ∙ ap (λ (y : ℕ). member y around) back
      where
        back : f + (x - f) ≡ x
        back = omega (arith, l refl)

-- a store behind the ends of the abstractions passed
pub ends_more : (ends : List ℕ) (seen e : ℕ) → seen < length ends → take (seen + 1) (set ends seen e) ≡ take seen ends ++ (e ∷ [])
ends_more ends seen e h = rw (add-one, take-suc-set ends seen e h)
