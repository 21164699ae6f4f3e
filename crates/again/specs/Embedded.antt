-- What specs/Again says, of two calls of `glow_evaluate_with`, or of `glow_evaluate`, by programs in other languages, with the number of one
-- machine and the same bytes: in the statuses that they return and in the numbers of the report array. It follows from what each call's contract
-- promises (embed/specs/Embedding); proofs/Embedded.antt has the proof.
-- Letters: k is the number of a machine, p the prelude, s the term file, c a call.
use Rattle.std.specs.Prelude.{ℕ, ◌≤◌, ◌<◌, ◌≡◌, cond, List, ◌⊎◌, eqb, length, take, drop, get_or}
use Rattle.tally.specs.Numbers.{number}
use Rattle.tally.specs.declared.Refusal.{Refusal}
use Rattle.machine.specs.Answer.{given, file_given}
use Rattle.evaluator.specs.Promise.{Memory}
use Rattle.embed.specs.Embedding.{Embedded}
use Rattle.again.specs.Again.{store_for, StoresLonger, WritesAgain}

-- a call: its budget, the status that it returns, and what the nine stores' arrays and the report array hold before and after it
pub record EmbeddedCall : Type 0 where
  pub budget : ℕ
  pub status : ℕ
  pub before : Memory
  pub after : Memory
  pub report_before : List ℕ
  pub report_after : List ℕ

-- it is one of `glow_evaluate_with`: what that contract says
abbrev pub IsEmbeddedCall : ℕ → List ℕ → List ℕ → EmbeddedCall → Type 0
IsEmbeddedCall k p s c = Embedded k (given p s) c.budget c.status c.before c.after c.report_before c.report_after

-- it is one of `glow_evaluate`, which takes no prelude
abbrev pub IsEmbeddedFileCall : ℕ → List ℕ → EmbeddedCall → Type 0
IsEmbeddedFileCall k s c = Embedded k (file_given s) c.budget c.status c.before c.after c.report_before c.report_after

-- how many numbers a call with a status from 0 to 3 writes to the report array: the refusal's alone where the bytes are refused, and else 12
abbrev pub numbers_reported : EmbeddedCall → ℕ
numbers_reported c = cond (eqb c.status 3) 1 12

-- how many nodes it writes: none where the bytes are refused, and else the report's second number
abbrev pub nodes_reported : EmbeddedCall → ℕ
nodes_reported c = cond (eqb c.status 3) 0 (get_or c.report_after 1 0)

-- the second call returns the status that the first returns, and writes what the first writes: the same numbers at the front of the report
-- array and nothing behind them, and the same nodes
pub record EmbeddedAgain (first second : EmbeddedCall) : Type 0 where
  pub status : second.status ≡ first.status
  pub report : take (numbers_reported first) second.report_after ≡ take (numbers_reported first) first.report_after
  pub report_behind : drop (numbers_reported first) second.report_after ≡ drop (numbers_reported first) second.report_before
  pub nodes : WritesAgain (nodes_reported first) first.after second.before second.after

-- what the second call may change: spent, where the budget is larger, and a store's refusal, where that store is longer
pub data MayReturnElse (first second : EmbeddedCall) : Type 0 where
  was_spent : first.status ≡ 1 → first.budget < second.budget → MayReturnElse first second
  was_refused : (why : Refusal) → first.status ≡ 2 → get_or first.report_after 0 0 ≡ number why
      → store_for why first.before < store_for why second.before → MayReturnElse first second

-- the second call is given at least as much, and its report array is long enough
pub record EmbeddedMore (first second : EmbeddedCall) : Type 0 where
  pub budget : first.budget ≤ second.budget
  pub stores : StoresLonger first.before second.before
  pub report : 12 ≤ length second.report_before

-- no count of steps, elements 2 to 6 of the report array, is smaller in the second
pub record NumbersGrow (first second : EmbeddedCall) : Type 0 where
  pub beta : get_or first.report_after 2 0 ≤ get_or second.report_after 2 0
  pub subst : get_or first.report_after 3 0 ≤ get_or second.report_after 3 0
  pub enter : get_or first.report_after 4 0 ≤ get_or second.report_after 4 0
  pub leave_fun : get_or first.report_after 5 0 ≤ get_or second.report_after 5 0
  pub leave_inert : get_or first.report_after 6 0 ≤ get_or second.report_after 6 0

pub record TwoEmbeddedCalls (first second : EmbeddedCall) : Type 0 where
  -- a normal form, status 0, is returned again
  pub normal_again : EmbeddedMore first second → first.status ≡ 0 → EmbeddedAgain first second
  -- two normal forms are the same, whatever the budgets and arrays
  pub one_normal : first.status ≡ 0 → second.status ≡ 0 → EmbeddedAgain first second
  -- whatever is returned with a status from 0 to 3 is returned again, but for what may change
  pub changes : EmbeddedMore first second → first.status ≤ 3 → EmbeddedAgain first second ⊎ MayReturnElse first second
  -- where the first call returns the status of a run, 0 to 2, no count of steps is smaller in the second: its run begins with all steps of the
  -- first
  pub counts_grow : EmbeddedMore first second → first.status ≤ 2 → NumbersGrow first second
  -- a refusal of the file or of the prelude, status 3, is returned again, whatever the budgets and the stores' arrays
  pub bytes_refused : 12 ≤ length second.report_before → first.status ≡ 3 → EmbeddedAgain first second
