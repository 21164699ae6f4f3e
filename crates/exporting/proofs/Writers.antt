-- Bits put behind each other. The idea: a bit that is shifted into a byte is the last of its low bits, and a byte that is full is one more of
-- the bytes whose bits are put. Once the last byte is filled with zeros, the bytes are those that packing gives, as no others have these bits.
-- Assumes nothing.
use Prim.Native.Nat.{ℕ, zero, suc, ◌+◌, ◌-◌, ◌*◌, ◌/◌, ◌%◌, ◌^◌, ◌≤◌, ◌<◌}
use mathlib.Core.Path.{◌≡◌, refl, sym, ap, ap₂, ◌∙◌, subst, subst⁻¹}
use mathlib.Core.Bool.{Bool, true, false}
use mathlib.Core.List.{List, [], ◌∷◌, ◌++◌, append_assoc, append-nil}
use native.Mathlib.Nat.{pow-suc, mul_assoc}
use native.Mathlib.Omega.{arith}
use native.Mathlib.Numerals.{add-one}
use lib.Dec.{eqb}
use mir.Val.{bool_byte}
use lib.ListN.{length, take, drop, set, replicate, length-append, length-set, take-append-drop}
use lib.Pow.{pow_mono, shl_lt, shr-shr}
use lib.Seq.{take-suc-set, drop-set-lt, drop-drop, length-take-le}
use Rattle.termfile.specs.File.{Bytes}
use Rattle.termfile.specs.Output.{overlay}
use Rattle.binary.specs.Bits.{low_bits, bits_in, index, pack}
use Rattle.binary.specs.Answer.{padding}
use Rattle.binary.proofs.Packing.{bits_in-append, padding-replicate, pack-unique}
use Rattle.binary.proofs.Ones.{replicate-snoc, index-append}
use Rattle.exporting.specs.Putting.{Put, Puts}
use Rattle.exporting.specs.declared.putting.Writer.{Writer}

-- Bits of a byte

halves : (c x b : ℕ) → b < 2 → (x * 2 + b) / 2 ^ suc c ≡ x / 2 ^ c
halves c x b h =
    let once : (x * 2 + b) / 2 ^ 1 ≡ x = omega arith in
    let e : 1 + c ≡ suc c = omega arith in
    ap (λ k. (x * 2 + b) / 2 ^ k) (sym e) ∙ sym (shr-shr (x * 2 + b) 1 c) ∙ ap (λ y. y / 2 ^ c) once

-- a bit that is shifted in is the last
pub low_bits-shift : (c x b : ℕ) → b < 2 → low_bits (suc c) (x * 2 + b) ≡ low_bits c x ++ (eqb b 1 ∷ [])
low_bits-shift zero x b h =
    let e : (x * 2 + b) / 2 ^ 0 % 2 ≡ b = omega arith in
    ap (λ y. eqb y 1 ∷ []) e
low_bits-shift (suc c) x b h = ap₂ (λ y l. eqb (y % 2) 1 ∷ l) (halves c x b h) (low_bits-shift c x b h)

-- zeros that are shifted in
low_bits-zeros : (c x d : ℕ) → low_bits (d + c) (x * 2 ^ d) ≡ low_bits c x ++ replicate d false
low_bits-zeros c x zero =
    let e : 0 + c ≡ c = omega arith in
    let g : x * 2 ^ 0 ≡ x = omega arith in
    ap₂ low_bits e g ∙ sym (append-nil (low_bits c x))
low_bits-zeros c x (suc d) =
    let e : suc d + c ≡ suc (d + c) = omega arith in
    let g : x * 2 ^ suc d ≡ x * 2 ^ d * 2 + 0 = ap (λ y. x * y) (pow-suc 2 d) ∙ omega (arith, mul_assoc x (2 ^ d) 2) in
    ap₂ low_bits e g ∙ low_bits-shift (d + c) (x * 2 ^ d) 0 (omega arith) ∙ ap (λ l. l ++ (false ∷ [])) (low_bits-zeros c x d)
    ∙ append_assoc (low_bits c x) (replicate d false) (false ∷ []) ∙ ap (λ l. low_bits c x ++ l) (replicate-snoc false d [] ∙ append-nil (replicate (suc d) false))

bytes-snoc : (s : List ℕ) (x : ℕ) → Bytes s → x < 256 → Bytes (s ++ (x ∷ []))
bytes-snoc [] x b h zero = h
bytes-snoc [] x b h (suc i) = omega arith
bytes-snoc (y ∷ s) x b h zero = b 0
bytes-snoc (y ∷ s) x b h (suc i) = bytes-snoc s x (λ j. b (suc j)) h i

-- a byte that is stored behind the full ones
module _ (l : List ℕ) (at x : ℕ) (h : at < length l) where
  take-stored : take (at + 1) (set l at x) ≡ take at l ++ (x ∷ [])
  take-stored = ap (λ k. take k (set l at x)) (add-one at) ∙ take-suc-set l at x h

  bits-stored : bits_in (take (at + 1) (set l at x)) ≡ bits_in (take at l) ++ low_bits 8 x
  bits-stored = ap bits_in take-stored ∙ bits_in-append (take at l) (x ∷ []) ∙ ap (λ b. bits_in (take at l) ++ b) (append-nil (low_bits 8 x))

  bytes-stored : x < 256 → Bytes (take at l) → Bytes (take (at + 1) (set l at x))
  bytes-stored g b = subst⁻¹ Bytes take-stored (bytes-snoc (take at l) x b g)

  rest-stored : (l₀ : List ℕ) → drop at l ≡ drop at l₀ → drop (at + 1) (set l at x) ≡ drop (at + 1) l₀
  rest-stored l₀ e =
      drop-set-lt (at + 1) l at x (omega arith) ∙ sym (drop-drop 1 at l) ∙ ap (drop 1) e ∙ drop-drop 1 at l₀

-- One bit

begun-small : (x c : ℕ) → c < 8 → x < 2 ^ c → x < 128
begun-small x c h g = omega (arith, pow_mono {i = c} {j = 7} (omega arith))

module _ (p : Writer) (b : ℕ) (bit : b ≤ 1) (l : List ℕ) where
  shifted : ℕ
  shifted = p.byte * 2 ^ 1 % 256 + b

  module _ (as' : List Bool) (l₀ : List ℕ) (w : Put as' l₀ p l) where
    shifted-is : shifted ≡ p.byte * 2 + b
    unfolding shifted
    shifted-is = omega (arith, begun-small p.byte p.count w.few w.begun)

    bits-shifted : bits_in (take p.at l) ++ low_bits (suc p.count) shifted ≡ as' ++ (eqb b 1 ∷ [])
    bits-shifted =
        ap (λ y. bits_in (take p.at l) ++ low_bits (suc p.count) y) shifted-is
        ∙ ap (λ bs. bits_in (take p.at l) ++ bs) (low_bits-shift p.count p.byte b (omega arith))
        ∙ sym (append_assoc (bits_in (take p.at l)) (low_bits p.count p.byte) (eqb b 1 ∷ [])) ∙ ap (λ bs. bs ++ (eqb b 1 ∷ [])) w.bits_are

  pub bit-begun : p.count + 1 < 8 → Puts (eqb b 1 ∷ []) p l (record { at = p.at; byte = p.byte * 2 ^ 1 % 256 + b; count = p.count + 1 }) l
  unfolding shifted
  bit-begun h =
      record {
        moved = record { few = h; far = omega arith };
        put =
            λ as' l₀ w.
            record {
              bits_are = ap (λ k. bits_in (take p.at l) ++ low_bits k shifted) (add-one p.count) ∙ bits-shifted as' l₀ w;
              begun =
                  let e : 2 ^ (p.count + 1) ≡ 2 ^ p.count * 2 = ap (λ k. 2 ^ k) (add-one p.count) ∙ pow-suc 2 p.count in
                  omega (arith, shifted-is as' l₀ w, w.begun, e);
              few = h;
              within = w.within;
              full = w.full;
              rest = w.rest;
              same_length = w.same_length;
            };
      }

  pub bit-full : p.count < 8 → 8 ≤ p.count + 1 → p.at < length l
      → Puts (eqb b 1 ∷ []) p l (record { at = p.at + 1; byte = 0; count = 0 }) (set l p.at (p.byte * 2 ^ 1 % 256 + b))
  unfolding shifted
  bit-full few h fits =
      record {
        moved = record { few = omega arith; far = omega arith };
        put =
            λ as' l₀ w.
            let eight : 8 ≡ suc p.count = omega arith in
            record {
              bits_are =
                  append-nil (bits_in (take (p.at + 1) (set l p.at shifted))) ∙ bits-stored l p.at shifted fits
                  ∙ ap (λ k. bits_in (take p.at l) ++ low_bits k shifted) eight ∙ bits-shifted as' l₀ w;
              begun = omega arith;
              few = omega arith;
              within = subst (λ n. p.at + 1 ≤ n) (sym (length-set l p.at shifted)) (omega arith);
              full = bytes-stored l p.at shifted fits (omega (arith, shifted-is as' l₀ w, begun-small p.byte p.count w.few w.begun)) w.full;
              rest = rest-stored l p.at shifted fits l₀ w.rest;
              same_length = length-set l p.at shifted ∙ w.same_length;
            };
      }

-- a bit as a number
pub bit-is : (q : Bool) (b : ℕ) → b ≡ bool_byte q → (b ≤ 1) × (eqb b 1 ≡ q)
bit-is true b e = (omega arith, ap (λ x. eqb x 1) e)
bit-is false b e = (omega arith, ap (λ x. eqb x 1) e)

-- Bits behind each other

pub puts_none : (p : Writer) (l : List ℕ) → p.count < 8 → Puts [] p l p l
puts_none p l h =
    record { moved = record { few = h; far = omega arith }; put = λ as' l₀ w. subst⁻¹ (λ bs. Put bs l₀ p l) (append-nil as') w }

pub puts_then : {p q r : Writer} {l l' l'' : List ℕ} (as' bs : List Bool) → Puts as' p l q l' → Puts bs q l' r l'' → Puts (as' ++ bs) p l r l''
puts_then {p} {q} {r} {l} {l'} {l''} as' bs u v =
    record {
      moved = record { few = v.moved.few; far = omega (arith, u.moved.far, v.moved.far, length-append as' bs) };
      put = λ cs l₀ w. subst (λ ds. Put ds l₀ r l'') (append_assoc cs as' bs) (v.put (cs ++ as') l₀ (u.put cs l₀ w));
    }

pub puts-as : {p q : Writer} {l l' : List ℕ} {as' bs : List Bool} → as' ≡ bs → Puts as' p l q l' → Puts bs p l q l'
puts-as {p} {q} {l} {l'} e u = subst (λ bs. Puts bs p l q l') e u

pub ones-snoc : (i : ℕ) → replicate i true ++ (true ∷ []) ≡ replicate (i + 1) true
ones-snoc i = replicate-snoc true i [] ∙ append-nil (replicate (suc i) true) ∙ ap (λ k. replicate k true) (sym (add-one i))

pub index-ones : (k : ℕ) → replicate (k + 1) true ++ (false ∷ []) ≡ index k
index-ones k = ap (λ j. replicate j true ++ (false ∷ [])) (add-one k) ∙ sym (index-append k []) ∙ append-nil (index k)

-- The end

-- an array whose first bytes have the bits and padding
overlaid : (l l₀ : List ℕ) (at : ℕ) (bs rest : List Bool) → at ≤ length l → Bytes (take at l) → bits_in (take at l) ≡ bs ++ rest → padding rest ≡ true
    → drop at l ≡ drop at l₀ → l ≡ overlay (pack bs) l₀
overlaid l l₀ at bs rest h b e q d =
    let packed : take at l ≡ pack bs = sym (pack-unique (take at l) bs rest b e q) in
    let count : length (pack bs) ≡ at = ap length (sym packed) ∙ length-take-le at l h in
    sym (take-append-drop at l) ∙ ap₂ ◌++◌ packed d ∙ ap (λ k. pack bs ++ drop k l₀) (sym count)

module _ (p : Writer) (l : List ℕ) (bs : List Bool) (l₀ : List ℕ) (w : Put bs l₀ p l) where
  pub finished-even : p.count ≤ 0 → l ≡ overlay (pack bs) l₀
  finished-even h =
      let none : p.count ≡ 0 = omega arith in
      overlaid l l₀ p.at bs [] w.within w.full
      (sym (append-nil (bits_in (take p.at l))) ∙ ap (λ k. bits_in (take p.at l) ++ low_bits k p.byte) (sym none) ∙ w.bits_are ∙ sym (append-nil bs))
      refl w.rest

  pub finished : 0 < p.count → p.at < length l → set l p.at (p.byte * 2 ^ (8 - p.count) % 256) ≡ overlay (pack bs) l₀
  finished h fits =
      let d = 8 - p.count in
      let x = p.byte * 2 ^ d in
      let eight : d + p.count ≡ 8 = omega (arith, w.few) in
      let all : p.count + d ≡ 8 = omega (arith, w.few) in
      let small : x < 256 = subst (λ k. x < 2 ^ k) all (shl_lt p.count d w.begun) in
      let exact : x % 256 ≡ x = omega arith in
      ap (set l p.at) exact
      ∙ overlaid (set l p.at x) l₀ (p.at + 1) bs (replicate d false)
      (subst (λ n. p.at + 1 ≤ n) (sym (length-set l p.at x)) (omega arith)) (bytes-stored l p.at x fits small w.full)
      (bits-stored l p.at x fits ∙ ap (λ k. bits_in (take p.at l) ++ low_bits k x) (sym eight)
      ∙ ap (λ b. bits_in (take p.at l) ++ b) (low_bits-zeros p.count p.byte d)
      ∙ sym (append_assoc (bits_in (take p.at l)) (low_bits p.count p.byte) (replicate d false)) ∙ ap (λ b. b ++ replicate d false) w.bits_are)
      (padding-replicate d (omega arith)) (rest-stored l p.at x fits l₀ w.rest)

-- The start

pub put_first : (l : List ℕ) → Put [] l (record { at = 0; byte = 0; count = 0 }) l
put_first l =
    record {
      bits_are = refl;
      begun = omega arith;
      few = omega arith;
      within = omega arith;
      full = λ i. omega arith;
      rest = refl;
      same_length = refl;
    }
