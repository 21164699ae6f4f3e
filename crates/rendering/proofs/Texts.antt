-- Each line as the pieces that are put one after the other: a word and a number, further numbers, and the newline; and how long the lines
-- of the counts are.
-- Assumes nothing.
use Prim.Native.Nat.{ℕ, ◌+◌}
use mathlib.Core.Path.{◌≡◌}
use mathlib.Core.List.{List, [], ◌∷◌, ◌++◌, append-nil, append_assoc}
use native.Mathlib.Omega.{arith}
use lib.ListN.{length, length-append}
use Rattle.machine.specs.Answer.{Report}
use Rattle.rendering.specs.Decimal.{decimal}
use Rattle.rendering.specs.Lines.{ascii, count_line, allowed_line, leave_line, store_line, shift_sum, count_lines}

-- a word, a space and a number
abbrev pub named : List ℕ → ℕ → List ℕ
named w n = w ++ (32 ∷ decimal n)

pub count-pieces : (w : List ℕ) (n : ℕ) → count_line w n ≡ named w n ++ (10 ∷ [])
count-pieces w n = simp (append_assoc, append-nil)

pub allowed-pieces : (w : List ℕ) (n a : ℕ) → allowed_line w n a ≡ named w n ++ named (ascii " of") a ++ (10 ∷ [])
allowed-pieces w n a = simp (append_assoc, append-nil)

pub leave-pieces : (f i : ℕ) → leave_line f i ≡ named (ascii "leave") f ++ (32 ∷ decimal i) ++ (10 ∷ [])
leave-pieces f i = simp (append_assoc, append-nil)

pub store-pieces : (n c m : ℕ) → store_line n c m ≡ named (ascii "store") n ++ (32 ∷ decimal c) ++ (32 ∷ decimal m) ++ (10 ∷ [])
store-pieces n c m = simp (append_assoc, append-nil)

-- the lines of the counts, where k is the sum of the shifting steps
pub counts-pieces : (r : Report) (k : ℕ) → k ≡ shift_sum r
    → count_lines r
    ≡ count_line (ascii "beta") r.beta ++ allowed_line (ascii "subst") r.subst r.subst_allowance ++ count_line (ascii "enter") r.enter
    ++ leave_line r.leave_fun r.leave_inert ++ allowed_line (ascii "shift") k r.shift_allowance ++ store_line r.nodes r.cells r.names
unfolding count_lines
counts-pieces r k e = rw e

-- how many digits a number has
abbrev pub digits : ℕ → ℕ
digits n = length (decimal n)

pub counts-length : (r : Report) (k : ℕ) → k ≡ shift_sum r
    → length (count_lines r)
    ≡ 52 + (digits r.beta + digits r.subst + digits r.enter + digits r.leave_fun + digits r.leave_inert)
    + (digits r.subst_allowance + digits k + digits r.shift_allowance)
    + (digits r.nodes + digits r.cells + digits r.names)
counts-length r k e = rw (counts-pieces r k e) (simp length-append (omega arith))
