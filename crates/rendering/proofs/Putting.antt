-- Texts put one after the other into an array: together they are the joined text put, and room for the whole is room for each.
-- Letters: ts and us are texts, w, w' and w'' what is written, l what an array holds.
-- Assumes nothing.
use Prim.Native.Nat.{ℕ, ◌+◌, ◌≤◌, ◌<◌, ◌/◌, ◌%◌}
use mathlib.Core.Path.{◌≡◌, refl, sym, ap, ◌∙◌, subst, subst⁻¹}
use mathlib.Core.List.{List, [], ◌∷◌, ◌++◌, append_assoc}
use native.Mathlib.Omega.{arith}
use native.Mathlib.Numerals.{add-one}
use lib.ListN.{length, set, take, drop, length-append}
use lib.Seq.{sets, sets-eq, length-sets, take-length}
use borrow.Rule.Slice.PartMut.{put_mid}
use Rattle.std.proofs.lemmas.Slice.{put_mid-paste}
use Rattle.termfile.specs.Output.{overlay}
use Rattle.termfile.proofs.Sets.{sets-append, sets-front, drop-set}
use Rattle.rendering.specs.Decimal.{digit, decimal}
use Rattle.rendering.specs.Putting.{Room, Put}
use Rattle.rendering.specs.declared.words.Text.{Text}
use Rattle.rendering.proofs.Decimal.{decimal-above}

-- a text that is copied into its part of an array
pub sets-part : (ts l : List ℕ) (at k : ℕ) → at + length ts ≤ length l → k ≡ length ts → put_mid at k l ts ≡ sets l at ts
sets-part ts l at k h e =
    put_mid-paste at k l ts ts (length ts) refl (sym e) refl
    ∙ (ap (λ us. take at l ++ us ++ drop (at + length ts) l) (take-length ts) ∙ sym (sets-eq ts l at h))

-- the last digit of a number, stored before those that stand in the array already
pub digit-stored : (l : List ℕ) (n i : ℕ) → 10 ≤ n → i < length l
    → decimal (n / 10) ++ drop i (set l i (digit (n % 10))) ≡ decimal n ++ drop (i + 1) l
digit-stored l n i many h =
    ap (λ m. decimal (n / 10) ++ m) (drop-set l i (digit (n % 10)) h ∙ ap (λ k. digit (n % 10) ∷ drop k l) (sym (add-one i)))
    ∙ sym (append_assoc (decimal (n / 10)) (digit (n % 10) ∷ []) (drop (i + 1) l))
    ∙ ap (λ ds. ds ++ drop (i + 1) l) (sym (decimal-above n many))

-- an array's first place
pub set-first : (l : List ℕ) (d : ℕ) → 0 < length l → set l 0 d ≡ (d ∷ []) ++ drop 1 l
set-first [] d h = absurd (omega arith)
set-first (x ∷ l) d h = refl

pub put-nothing : {w : Text} → Put [] w w
put-nothing = record { len_is = omega arith; array_is = refl; same_array = refl }

pub put_then : {ts us : List ℕ} {w w' w'' : Text} → Put ts w w' → Put us w' w'' → Put (ts ++ us) w w''
put_then {ts} {us} {w} {w'} p q =
    record {
      len_is = omega (arith, p.len_is, q.len_is, length-append ts us);
      array_is =
          q.array_is ∙ ap (λ m. sets m w'.len us) p.array_is ∙ ap (λ k. sets (sets w.out.now w.len ts) k us) p.len_is
          ∙ sets-append ts us w.len w.out.now;
      same_array = q.same_array ∙ p.same_array;
    }

-- room for a text and another behind it is room for the first, and for the second once the first is put
pub room-first : {ts : List ℕ} (us : List ℕ) {w : Text} → Room (ts ++ us) w → Room ts w
room-first {ts} us h = record { fits = omega (arith, length-append ts us, h.fits) }

pub room_next : {ts us : List ℕ} {w w' : Text} → Room (ts ++ us) w → Put ts w w' → Room us w'
room_next {ts} {us} {w} h p =
    record { fits = omega (arith, length-append ts us, h.fits, p.len_is, ap length p.array_is, length-sets w.out.now w.len ts) }

-- the same of a text that is written in another way
pub room_as : {ts us : List ℕ} {w : Text} → ts ≡ us → Room ts w → Room us w
room_as {w = w} e h = subst (λ ts. Room ts w) e h

pub put_as : {ts us : List ℕ} {w w' : Text} → us ≡ ts → Put ts w w' → Put us w w'
put_as {w = w} {w' = w'} e p = subst⁻¹ (λ ts. Put ts w w') e p

-- a text that is put at the front is laid over the array
pub put_front : {ts l : List ℕ} {w w' : Text} → w.len ≡ 0 → w.out.now ≡ l → length ts ≤ length l → Put ts w w' → w'.out.now ≡ overlay ts l
put_front {ts} {l} {w} e is h p =
    p.array_is ∙ ap (λ k. sets w.out.now k ts) e ∙ ap (λ m. sets m 0 ts) is ∙ sets-front ts l h
