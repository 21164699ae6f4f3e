-- A prelude cut into its definitions, one at a time. The idea: a pass at byte `at` has m definitions left, which are the cut of what stands
-- there, and these are the definition that starts there in front of the others.
-- Assumes nothing.
use Prim.Native.Nat.{ℕ, zero, suc, ◌+◌, ◌*◌, ◌-◌, ◌≤◌, ◌<◌}
use mathlib.Core.Path.{◌≡◌, refl, sym, ap, ap₂, subst, ◌∙◌}
use mathlib.Core.Bool.{Bool, true, false, cond, false≢true}
use mathlib.Core.List.{List, [], ◌∷◌}
use mathlib.Core.Option.{Option, none, some}
use native.Mathlib.Omega.{arith}
use lib.Dec.{leb}
use lib.ListN.{length, get_or, take, drop, length-drop}
use lib.Seq.{take_all, length-take-le, get_or-take, get_or-drop, drop-drop}
use borrow.Author.Tests.{le-leb, leb-true}
use Rattle.termfile.specs.File.{word, node_count}
use Rattle.prelude.specs.Prelude.{definition_count, file_length, prepend, cut, files, are_cut, listed, definition_files}

-- the definition that the bytes begin with
abbrev pub first : List ℕ → List ℕ
first s = take (file_length s) s

module _ (s : List ℕ) (fits : file_length s ≤ length s) where
  pub first_byte : (i : ℕ) → i < file_length s → get_or (first s) i 0 ≡ get_or s i 0
  first_byte i h = get_or-take (file_length s) s i 0 h

  pub first_count : node_count (first s) ≡ node_count s
  first_count = ap₂ word (first_byte 2 (omega arith)) (first_byte 3 (omega arith))

  -- it is as long as its own count of nodes says
  pub first-exact : length (first s) ≡ 4 + 3 * node_count (first s)
  first-exact = omega (arith, length-take-le (file_length s) s fits, first_count)

-- The tests of the cut

module _ (m : ℕ) (s : List ℕ) where
  prepend-cut : (o : Option (List (List ℕ))) → are_cut (prepend (first s) o) ≡ are_cut o
  prepend-cut none = refl
  prepend-cut (some ss) = refl

  pub cut-next : file_length s ≤ length s → are_cut (cut (suc m) s) ≡ are_cut (cut m (drop (file_length s) s))
  cut-next h = rw (le-leb (file_length s) (length s) h) (prepend-cut (cut m (drop (file_length s) s)))

-- a turn of a loop that cuts one definition off
pub cut-turn : (m n l k : ℕ) (s : List ℕ) → m ≡ suc n → l ≡ file_length s → l ≤ length s → length s - l ≤ k
    → are_cut (cut m s) ≡ are_cut (cut n (take k (drop l s)))
cut-turn m n l k s e i h g =
    let fits : file_length s ≤ length s = omega arith in
    rw (e, cut-next n s fits, ← i, take_all k (drop l s) (omega (arith, length-drop l s)))

pub cut-none : (s : List ℕ) (ss : List (List ℕ)) → cut 0 s ≡ some ss → ss ≡ []
cut-none [] ss e = cc
cut-none (b ∷ s) ss e = let z : ◌≡◌ {A = ℕ} 0 1 = cc in absurd (omega arith)

-- What a cut has first

pub record Step (m : ℕ) (s : List ℕ) (ss : List (List ℕ)) : Type 0 where
  pub later : List (List ℕ)
  pub split : ss ≡ first s ∷ later
  pub fits : file_length s ≤ length s
  pub rest : cut m (drop (file_length s) s) ≡ some later

pub cut_step : (m : ℕ) (s : List ℕ) (ss : List (List ℕ)) → cut (suc m) s ≡ some ss → Step m s ss
cut_step m s ss e = go (leb (file_length s) (length s)) (cut m (drop (file_length s) s)) refl refl e
  where
    go : (b : Bool) (o : Option (List (List ℕ))) → leb (file_length s) (length s) ≡ b → cut m (drop (file_length s) s) ≡ o
        → cond b (prepend (first s) o) none ≡ some ss → Step m s ss
    go true none t u i = let z : ◌≡◌ {A = ℕ} 0 1 = cc in absurd (omega arith)
    go true (some later) t u i = record { later = later; split = cc; fits = leb-true _ _ t; rest = u }
    go false o t u i = let z : ◌≡◌ {A = ℕ} 0 1 = cc in absurd (omega arith)

pub cut-listed : (o : Option (List (List ℕ))) → are_cut o ≡ true → o ≡ some (listed o)
cut-listed none e = absurd (false≢true e)
cut-listed (some ss) e = refl

-- a cut has as many definitions as were asked for
pub cut-length : (m : ℕ) (s : List ℕ) (ss : List (List ℕ)) → cut m s ≡ some ss → length ss ≡ m
cut-length zero s ss e = ap length (cut-none s ss e)
cut-length (suc m) s ss e =
    let step = cut_step m s ss e in
    ap length step.split ∙ ap suc (cut-length m (drop (file_length s) s) step.later step.rest)

-- the definitions that so many bytes are cut into: how many they are, and the first
pub listed-length : (m : ℕ) (s : List ℕ) → are_cut (cut m s) ≡ true → length (listed (cut m s)) ≡ m
listed-length m s e = cut-length m s (listed (cut m s)) (cut-listed (cut m s) e)

pub listed-first : (m : ℕ) (s t : List ℕ) (ts : List (List ℕ)) → are_cut (cut m s) ≡ true → listed (cut m s) ≡ t ∷ ts → 4 ≤ length t
listed-first zero s t ts e i =
    let none_left = cut-none s (listed (cut 0 s)) (cut-listed (cut 0 s) e) in
    omega (arith, ap length (sym i ∙ none_left))
listed-first (suc m) s t ts e i =
    let step = cut_step m s (t ∷ ts) (cut-listed (cut (suc m) s) e ∙ ap some i) in
    let split : t ≡ first s = cc (step.split) in
    rw split (omega (arith, length-take-le (file_length s) s step.fits))

-- A pass over the definitions

-- a prelude whose bytes are its d definitions
pub record Cut (p : List ℕ) (d : ℕ) : Type 0 where
  pub long : 2 ≤ length p
  pub count : d ≡ definition_count p
  pub few : d < 65536
  pub whole : are_cut (files p) ≡ true

-- of d definitions those from place k on are ss, and start at byte `at`
pub record Left (p : List ℕ) (d k at : ℕ) (ss : List (List ℕ)) : Type 0 where
  pub few : k ≤ d
  pub inside : at ≤ length p
  pub are : cut (d - k) (drop at p) ≡ some ss

-- the definition at place k, and what is left behind it
pub record Next (p : List ℕ) (d k at : ℕ) (ss : List (List ℕ)) : Type 0 where
  pub later : List (List ℕ)
  pub split : ss ≡ first (drop at p) ∷ later
  pub fits : file_length (drop at p) ≤ length (drop at p)
  pub end : at + file_length (drop at p) ≤ length p
  pub left : (l : ℕ) → l ≡ file_length (drop at p) → Left p d (k + 1) (at + l) later

pub left-begin : {p : List ℕ} {d : ℕ} → Cut p d → Left p d 0 2 (definition_files p)
left-begin {p} {d} h =
    let all : definition_count p ≡ d - 0 = omega (arith, h.count) in
    record {
      few = omega arith;
      inside = h.long;
      are = subst (λ m. cut m (drop 2 p) ≡ some (definition_files p)) all (cut-listed (files p) h.whole);
    }

module _ {p : List ℕ} {d k at : ℕ} {ss : List (List ℕ)} (h : Left p d k at ss) where
  pub left-next : k < d → Next p d k at ss
  left-next l =
      let s = drop at p in
      let m : d - k ≡ suc (d - (k + 1)) = omega arith in
      let step = cut_step (d - (k + 1)) s ss (subst (λ n. cut n s ≡ some ss) m h.are) in
      let end : at + file_length s ≤ length p = omega (arith, step.fits, length-drop at p, h.inside) in
      record {
        later = step.later;
        split = step.split;
        fits = step.fits;
        end = end;
        left =
            λ n e. record {
              few = omega arith;
              inside = omega arith;
              are =
                  subst (λ q. cut (d - (k + 1)) q ≡ some step.later)
                  (drop-drop (file_length s) at p ∙ ap (λ i. drop (at + i) p) (sym e))
                  step.rest;
            };
      }

  pub left_end : d ≤ k → ss ≡ []
  left_end l =
      let m : d - k ≡ 0 = omega arith in
      cut-none (drop at p) ss (subst (λ n. cut n (drop at p) ≡ some ss) m h.are)

-- A definition's length is read where it starts

pub length_at : (p : List ℕ) (at : ℕ) → file_length (drop at p) ≡ 4 + 3 * word (get_or p (at + 2) 0) (get_or p (at + 3) 0)
length_at p at = ap₂ (λ a b. 4 + 3 * word a b) (get_or-drop at p 2 0) (get_or-drop at p 3 0)
