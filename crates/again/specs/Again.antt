-- 02, request 7: "More budget never changes an answer." What is promised of two calls of `evaluate_with`, or of `evaluate`, on one machine and
-- with the same bytes: what the second answers and writes. It follows from what each call's contract promises, and nothing else has to be
-- known of the calls; proofs/Again.antt has the proof.
-- Letters: M is the machine, p the prelude, s the term file, c a call, m and m' are what the arrays of a call hold, r and r' reports, k is a refusal.
use Rattle.std.specs.Prelude.{ℕ, ◌≤◌, ◌<◌, ◌≡◌, List, ◌⊎◌, length, take, drop}
use Rattle.termfile.specs.declared.Refusal as file
use Rattle.prelude.specs.declared.Refusal as prelude
use Rattle.tally.specs.declared.Refusal.{Refusal}
use Rattle.tally.specs.declared.Refusal.TheVariants.{Cells, Nodes, Names, Renumber, Output}
use Rattle.machine.specs.declared.Machine.{Machine}
use Rattle.machine.specs.Answer.{given, file_given}
use Rattle.evaluator.specs.Calling.{Blames, BlamesFile}
use Rattle.evaluator.specs.Promise.{Memory, stores_in, Called}
use Rattle.evaluator.specs.declared.Outcome.{Outcome}
use Rattle.evaluator.specs.declared.Outcome.TheVariants.{Normal, Spent, Refused}
use Rattle.evaluator.specs.declared.Report.{Report}
use Rattle.evaluator.specs.declared.Answer.{Answer}
use Rattle.evaluator.specs.declared.Answer.TheVariants.{FileRefused, PreludeRefused, Ran}

-- a call: its budget, what it answers, and what the nine lent arrays hold before and after it
pub record Call : Type 0 where
  pub budget : ℕ
  pub answer : Answer
  pub before : Memory
  pub after : Memory

-- it is one of `evaluate_with`: what that contract says
pub record IsCall (M : Machine) (p s : List ℕ) (c : Call) : Type 0 where
  pub refused : Blames p s c.answer
  pub called : Called M (given p s) c.budget c.answer c.before c.after

-- it is one of `evaluate`, which takes no prelude
pub record IsFileCall (M : Machine) (s : List ℕ) (c : Call) : Type 0 where
  pub refused : BlamesFile s c.answer
  pub called : Called M (file_given s) c.budget c.answer c.before c.after

-- the length, as it is counted, of the store that a refusal is about: the shortest of its arrays, up to the store's
-- limit, which the renumber store does not have
abbrev pub store_for : Refusal → Memory → ℕ
store_for Cells m = (stores_in m).cells
store_for Nodes m = (stores_in m).nodes
store_for Names m = (stores_in m).names
store_for Renumber m = (stores_in m).renumber
store_for Output m = (stores_in m).output

-- each of the five stores is at least as long
abbrev pub StoresLonger : Memory → Memory → Type 0
StoresLonger m m' = (k : Refusal) → store_for k m ≤ store_for k m'

-- it is so where each of the nine arrays is at least as long: `longer-arrays` in proofs/Again
pub record ArraysLonger (m m' : Memory) : Type 0 where
  pub tags : length m.tags ≤ length m'.tags
  pub arguments : length m.arguments ≤ length m'.arguments
  pub codes : length m.codes ≤ length m'.codes
  pub owns : length m.owns ≤ length m'.owns
  pub nexts : length m.nexts ≤ length m'.nexts
  pub places : length m.places ≤ length m'.places
  pub renumber : length m.renumber ≤ length m'.renumber
  pub output_tags : length m.output_tags ≤ length m'.output_tags
  pub output_arguments : length m.output_arguments ≤ length m'.output_arguments

-- the second call is given at least as much: its budget is at least as large, and the stores that it is lent are at least as long
pub record GivenMore (first second : Call) : Type 0 where
  pub budget : first.budget ≤ second.budget
  pub stores : StoresLonger first.before second.before

-- the nodes that a call writes, as its answer tells: those of the normal form, or none
abbrev pub nodes_of : Outcome → ℕ
nodes_of (Normal n) = n
nodes_of Spent = 0
nodes_of (Refused k) = 0

abbrev pub nodes_told : Answer → ℕ
nodes_told (FileRefused k) = 0
nodes_told (PreludeRefused k) = 0
nodes_told (Ran r) = nodes_of r.outcome

-- the second call writes what the first writes: the same nodes, so many of them, at the front of the output arrays, and nothing behind them. The
-- three memories are what the arrays hold after the first call, and before and after the second
pub record WritesAgain (count : ℕ) (first-after before after : Memory) : Type 0 where
  pub tags : take count after.output_tags ≡ take count first-after.output_tags
  pub arguments : take count after.output_arguments ≡ take count first-after.output_arguments
  pub tags_behind : drop count after.output_tags ≡ drop count before.output_tags
  pub arguments_behind : drop count after.output_arguments ≡ drop count before.output_arguments

-- it answers what the first answers, with each count, figure and allowance, and writes what the first writes
pub record CalledAgain (first second : Call) : Type 0 where
  pub answer : second.answer ≡ first.answer
  pub nodes : WritesAgain (nodes_told first.answer) first.after second.before second.after

-- an answer with a normal form
pub data IsNormalForm : Answer → Type 0 where
  is_normal_form : (r : Report) (n : ℕ) → r.outcome ≡ Normal n → IsNormalForm (Ran r)

-- the answers of the first call that the second may change: spent, where the budget is larger, and a store's refusal, where that store is
-- longer
pub data MayAnswerElse (first second : Call) : Answer → Type 0 where
  was_spent : (r : Report) → r.outcome ≡ Spent → first.budget < second.budget → MayAnswerElse first second (Ran r)
  was_refused : (r : Report) (k : Refusal) → r.outcome ≡ Refused k → store_for k first.before < store_for k second.before
      → MayAnswerElse first second (Ran r)

-- no count of steps is smaller in the second report
pub record CountsGrow (r r' : Report) : Type 0 where
  pub beta : r.beta ≤ r'.beta
  pub subst : r.subst ≤ r'.subst
  pub enter : r.enter ≤ r'.enter
  pub leave_fun : r.leave_fun ≤ r'.leave_fun
  pub leave_inert : r.leave_inert ≤ r'.leave_inert

pub record TwoCalls (first second : Call) : Type 0 where
  -- a normal form is answered again
  pub normal_again : GivenMore first second → IsNormalForm first.answer → CalledAgain first second
  -- two normal forms are the same, whatever the budgets and arrays
  pub one_normal : IsNormalForm first.answer → IsNormalForm second.answer → CalledAgain first second
  -- every other answer is given again too, but for those that may change
  pub changes : GivenMore first second → CalledAgain first second ⊎ MayAnswerElse first second first.answer
  -- where both have a report, no count of steps is smaller in the second: its run begins with all steps of the first
  pub counts_grow : GivenMore first second → (r r' : Report) → first.answer ≡ Ran r → second.answer ≡ Ran r' → CountsGrow r r'
  -- a refusal of the file or of the prelude never changes, whatever the budgets and arrays
  pub file_refused : (k : file.Refusal) → first.answer ≡ FileRefused k → CalledAgain first second
  pub prelude_refused : (k : prelude.Refusal) → first.answer ≡ PreludeRefused k → CalledAgain first second
