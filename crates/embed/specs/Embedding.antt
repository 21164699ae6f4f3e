-- What a call from another language returns: a status, and numbers in the report array.
-- Letters: M is a machine, k the number of one, g is what the bytes give, q is the status, m and m' what the stores hold before and after, r
-- and r' the report array.
use Rattle.std.specs.Prelude.{ℕ, ◌≤◌, ◌<◌, ◌≡◌, List, [], ◌∷◌, length, Result, Ok, Err}
use Rattle.machine.specs.declared.Machine.{Machine}
use Rattle.machine.specs.declared.UnknownMachine.{UnknownMachine}
use Rattle.machine.specs.Naming.{named_by}
use Rattle.machine.specs.Answer as machine
use Rattle.termfile.specs.Output.{overlay}
use Rattle.machine.specs.Answer.{answer}
use Rattle.evaluator.specs.Promise.{Memory, stores_in, Called}
use Rattle.evaluator.specs.declared.Answer.{Answer}

-- 0 a normal form, 1 spent, 2 a refusal of the run
abbrev pub outcome_status : machine.Outcome → ℕ
outcome_status (machine.normal n) = 0
outcome_status machine.spent = 1
outcome_status (machine.refused k) = 2

-- 3 where the term file or the prelude is refused
abbrev pub status_of : machine.Answer → ℕ
status_of (machine.number_alone k) = 3
status_of (machine.report r) = outcome_status r.outcome

-- the refusal's number, or 0
abbrev pub refusal_of : machine.Outcome → ℕ
refusal_of (machine.normal n) = 0
refusal_of machine.spent = 0
refusal_of (machine.refused k) = k

-- what is written to the report array: of refused bytes the number alone, and else all that a run returns
abbrev pub numbers_of : machine.Answer → List ℕ
numbers_of (machine.number_alone k) = k ∷ []
numbers_of (machine.report r) =
    refusal_of r.outcome ∷ machine.nodes_written r.outcome ∷ r.beta ∷ r.subst ∷ r.enter ∷ r.leave_fun ∷ r.leave_inert ∷ r.nodes ∷ r.cells ∷ r.names
    ∷ r.subst_allowance ∷ r.shift_allowance ∷ []

-- what is promised of a call with a number that is no machine's: the status 5, and nothing is touched
pub record NoSuchMachine (q : ℕ) (m m' : Memory) (r r' : List ℕ) : Type 0 where
  pub status_five : q ≡ 5
  pub report_kept : r' ≡ r
  pub memory_kept : m' ≡ m

-- of a call on the machine M
pub record EmbeddedOn (M : Machine) (g : machine.Given) (budget q : ℕ) (m m' : Memory) (r r' : List ℕ) : Type 0 where
  -- a report array of fewer than 12 elements is refused with the status 4, and nothing is touched
  pub short_status : length r < 12 → q ≡ 4
  pub short_report : length r < 12 → r' ≡ r
  pub short_memory : length r < 12 → m' ≡ m
  -- else all that is promised of a call on the machine holds, and the status and the numbers are those of its answer
  pub called : 12 ≤ length r → (a : Answer) × Called M g budget a m m'
  pub status : 12 ≤ length r → q ≡ status_of (answer M g budget (stores_in m))
  pub numbers : 12 ≤ length r → r' ≡ overlay (numbers_of (answer M g budget (stores_in m))) r

-- of a call with a number, by what it names
pub data EmbeddedBy (g : machine.Given) (budget q : ℕ) (m m' : Memory) (r r' : List ℕ) : Result Machine UnknownMachine → Type 0 where
  on_machine : (M : Machine) → EmbeddedOn M g budget q m m' r r' → EmbeddedBy g budget q m m' r r' (Ok M)
  no_machine : (u : UnknownMachine) → NoSuchMachine q m m' r r' → EmbeddedBy g budget q m m' r r' (Err u)

abbrev pub Embedded : ℕ → machine.Given → ℕ → ℕ → Memory → Memory → List ℕ → List ℕ → Type 0
Embedded k g budget q m m' r r' = EmbeddedBy g budget q m m' r r' (named_by k)
