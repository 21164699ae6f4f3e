-- Imports worked out from the definitions, as rows of one table with one claim: the refusals at their edges and in their order, and of each
-- file that is written, that exporting it gives the bits back.
-- Assumes nothing.
use Prim.Native.Nat.{ℕ}
use mathlib.Core.Path.{◌≡◌, refl}
use mathlib.Core.List.{List, [], ◌∷◌}
use Rattle.termfile.specs.File.{refusal}
use Rattle.binary.specs.Answer.{Wanted, number, bytes, imported, exported, Answer, refused, written, answer}

-- bits in bytes, a count of free names, the length of the output, and what is answered
pub record Row : Type 0 where
  pub bits : List ℕ
  pub free : ℕ
  pub room : ℕ
  pub answered : Answer

abbrev pub row : List ℕ → ℕ → ℕ → Answer → Row
row s f l a = record { bits = s; free = f; room = l; answered = a }

abbrev pub rows : List Row
rows =
    -- λx. x is 00 10, and its file has 4 + 3 · 2 bytes
    row (0b0010_0000 ∷ []) 0 10 (written 10)
    ∷ row (0b0010_0000 ∷ []) 16384 12 (written 10)
    ∷ row (0b0010_0000 ∷ []) 0 9 (refused 12)
    -- f is tested before the bits
    ∷ row [] 16385 10 (refused 2)
    ∷ row [] 0 10 (refused 14)
    -- four abstractions and no body: none of the zeros is padding
    ∷ row (0b0000_0000 ∷ []) 0 10 (refused 14)
    -- an index that is too large, without its zero and with it
    ∷ row (0b1111_1111 ∷ []) 0 10 (refused 14)
    ∷ row (0b1111_1110 ∷ []) 0 10 (refused 16)
    -- the free name 0
    ∷ row (0b1000_0000 ∷ []) 1 10 (written 7)
    -- 16 before the bits end inside a right part, and before ones behind the term
    ∷ row (0b0110_0000 ∷ []) 0 10 (refused 16)
    ∷ row (0b1011_1111 ∷ []) 0 10 (refused 16)
    ∷ row (0b1011_1111 ∷ []) 1 10 (refused 15)
    -- λx. x x is 00 01 10 10, which ends on a byte border; a byte behind it is spare
    ∷ row (0b0001_1010 ∷ []) 0 16 (written 16)
    ∷ row (0b0001_1010 ∷ 0 ∷ []) 0 16 (refused 15)
    -- the padding is tested before the output
    ∷ row (0b0010_0001 ∷ []) 0 9 (refused 15)
    -- K, λx. λy. x, is 00 00 110; S, λx. λy. λz. x z (y z), is 00 00 00 01 01 1110 10 01 110 10
    ∷ row (0b0000_1100 ∷ []) 0 13 (written 13)
    ∷ row (0b0000_0001 ∷ 0b0111_1010 ∷ 0b0111_0100 ∷ []) 0 34 (written 34)
    ∷ []

-- what a file that is written is exported to
abbrev pub Back : Wanted → List ℕ → Type 0
Back (number k) s = Unit {0}
Back (bytes r) s = exported r ≡ bytes s

abbrev pub Right : List Row → Type 0
Right [] = Unit {0}
Right (r ∷ rs) =
    (answer (imported r.free r.bits) r.room ≡ r.answered) × Back (imported r.free r.bits) r.bits × Right rs

pub rows_right : Right rows
unfolding refusal
rows_right = (refl, refl, (refl, refl, (refl, refl, (refl, tt, (refl, tt, (refl, tt, (refl, tt, (refl, tt, (refl, refl, (refl, tt, (refl, tt, (refl, tt, (refl, refl, (refl, tt, (refl, tt, (refl, refl, (refl, refl, tt)))))))))))))))))
