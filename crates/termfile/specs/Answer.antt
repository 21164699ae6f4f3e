-- What `check` answers, in the paper's numbers.
use Rattle.std.specs.Prelude.{ℕ, List, Result, Ok, Err}
use Rattle.std.proofs.Math.Option.{Option, none, some}
use Rattle.termfile.specs.File.{counts, refusal}
use Rattle.termfile.specs.declared.Counts.{Counts}
use Rattle.termfile.specs.declared.Refusal.{Refusal}
use Rattle.termfile.specs.declared.Refusal.TheVariants.{Short, Limits, Length, Tag, Shape, Binder, Variable}

-- a file is refused with a number and nothing else, or accepted with its counts
pub data Answer : Type 0 where
  refused : ℕ → Answer
  accepted : Counts → Answer

abbrev pub answered : Option ℕ → Counts → Answer
answered (some k) c = refused k
answered none c = accepted c

-- 01, Numbered answers: the answer for each byte string
abbrev pub answer : List ℕ → Answer
answer s = answered (refusal s) (counts s)

-- 01, Numbered answers: the number of each case
abbrev pub number : Refusal → ℕ
number Short = 1
number Limits = 2
number Length = 3
number Tag = 4
number Shape = 5
number Binder = 6
number Variable = 7

abbrev pub told : Result Counts Refusal → Answer
told (Err r) = refused (number r)
told (Ok c) = accepted c
