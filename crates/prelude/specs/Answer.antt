-- What `check` answers, in the paper's numbers.
use Rattle.std.specs.Prelude.{ℕ, List, Result, Ok, Err}
use Rattle.std.proofs.Math.Option.{Option, none, some}
use Rattle.termfile.specs.Answer as termfile
use Rattle.prelude.specs.Prelude.{definition_files, each_refusal, prelude_refusal, sums}
use Rattle.prelude.specs.declared.Sums.{Sums}
use Rattle.prelude.specs.declared.Refusal.{Refusal}
use Rattle.prelude.specs.declared.Refusal.TheVariants.{Cut, Definition, NotAbstraction, Place}

-- a prelude is refused with a number and nothing else, or accepted with the sums over its definitions
pub data Answer : Type 0 where
  refused : ℕ → Answer
  accepted : Sums → Answer

abbrev pub answered : Option ℕ → Sums → Answer
answered (some k) m = refused k
answered none m = accepted m

-- 02, request 6: the answer for each byte string, beside a term with f free names
abbrev pub answer : ℕ → List ℕ → Answer
answer f p = answered (prelude_refusal f p) (sums (definition_files p))

-- what the definitions' own refusals alone say
abbrev pub answer_of_each : List (List ℕ) → Answer
answer_of_each ss = answered (each_refusal ss) (sums ss)

-- 02, request 6: the number of each case; a definition's refusal has its own
abbrev pub number : Refusal → ℕ
number Cut = 17
number (Definition r) = termfile.number r
number NotAbstraction = 18
number Place = 19

abbrev pub told : Result Sums Refusal → Answer
told (Err r) = refused (number r)
told (Ok m) = accepted m
