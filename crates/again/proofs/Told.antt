-- Answers for one prelude and one file that are told alike are the same. The idea: each number leads back to its refusal, what a report tells
-- leads back to it, and file and prelude are never both blamed.
-- Assumes nothing.
use Prim.Native.Nat.{ℕ, ◌-◌}
use mathlib.Core.Path.{◌≡◌, refl, sym, ap, ◌∙◌}
use mathlib.Core.Bool.{cond}
use mathlib.Core.List.{List, [], ◌∷◌}
use mathlib.Core.Option.{some-injective, none-ne-some}
use native.Mathlib.Omega.{arith}
use lib.Dec.{leb}
use lib.ListN.{get_or}
use Rattle.termfile.specs.Answer as file
use Rattle.termfile.specs.declared.Refusal as file-refusals
use Rattle.termfile.specs.declared.Refusal.TheVariants as files
use Rattle.prelude.specs.Answer as prelude
use Rattle.prelude.specs.declared.Refusal as prelude-refusals
use Rattle.prelude.specs.declared.Refusal.TheVariants as preludes
use Rattle.tally.specs.Numbers.{number}
use Rattle.tally.specs.declared.Refusal.{Refusal}
use Rattle.tally.specs.declared.Refusal.TheVariants.{Cells, Nodes, Names, Renumber, Output}
use Rattle.machine.specs.Answer as machine
use Rattle.evaluator.specs.Calling.{told_outcome, told_report, told, Blames}
use Rattle.evaluator.specs.declared.Outcome.{Outcome}
use Rattle.evaluator.specs.declared.Outcome.TheVariants.{Normal, Spent, Refused}
use Rattle.evaluator.specs.declared.Report.{Report}
use Rattle.evaluator.specs.declared.Answer.{Answer}
use Rattle.evaluator.specs.declared.Answer.TheVariants.{FileRefused, PreludeRefused, Ran}

-- the refusal of a number
abbrev file_refusal_of : ℕ → file-refusals.Refusal
file_refusal_of k =
    get_or (files.Short ∷ files.Limits ∷ files.Length ∷ files.Tag ∷ files.Shape ∷ files.Binder ∷ files.Variable ∷ []) (k - 1) files.Short

file-refusal : (k : file-refusals.Refusal) → file_refusal_of (file.number k) ≡ k
file-refusal files.Short = refl
file-refusal files.Limits = refl
file-refusal files.Length = refl
file-refusal files.Tag = refl
file-refusal files.Shape = refl
file-refusal files.Binder = refl
file-refusal files.Variable = refl

abbrev prelude_refusal_of : ℕ → prelude-refusals.Refusal
prelude_refusal_of k =
    cond (leb k 7) (preludes.Definition (file_refusal_of k)) (get_or (preludes.Cut ∷ preludes.NotAbstraction ∷ preludes.Place ∷ []) (k - 17) preludes.Cut)

prelude-refusal : (k : prelude-refusals.Refusal) → prelude_refusal_of (prelude.number k) ≡ k
prelude-refusal preludes.Cut = refl
prelude-refusal (preludes.Definition files.Short) = refl
prelude-refusal (preludes.Definition files.Limits) = refl
prelude-refusal (preludes.Definition files.Length) = refl
prelude-refusal (preludes.Definition files.Tag) = refl
prelude-refusal (preludes.Definition files.Shape) = refl
prelude-refusal (preludes.Definition files.Binder) = refl
prelude-refusal (preludes.Definition files.Variable) = refl
prelude-refusal preludes.NotAbstraction = refl
prelude-refusal preludes.Place = refl

abbrev pub run_refusal_of : ℕ → Refusal
run_refusal_of k = get_or (Cells ∷ Nodes ∷ Names ∷ Renumber ∷ Output ∷ []) (k - 8) Cells

pub run-refusal : (k : Refusal) → run_refusal_of (number k) ≡ k
run-refusal Cells = refl
run-refusal Nodes = refl
run-refusal Names = refl
run-refusal Renumber = refl
run-refusal Output = refl

-- what is told of an outcome and of a report leads back to it
abbrev pub outcome_from : machine.Outcome → Outcome
outcome_from (machine.normal n) = Normal n
outcome_from machine.spent = Spent
outcome_from (machine.refused k) = Refused (run_refusal_of k)

pub outcome-from : (o : Outcome) → outcome_from (told_outcome o) ≡ o
outcome-from (Normal n) = refl
outcome-from Spent = refl
outcome-from (Refused k) = ap Refused (run-refusal k)

abbrev report_from : machine.Report → Report
report_from q =
    record {
      outcome = outcome_from q.outcome;
      beta = q.beta;
      subst = q.subst;
      enter = q.enter;
      leave_fun = q.leave_fun;
      leave_inert = q.leave_inert;
      nodes = q.nodes;
      cells = q.cells;
      names = q.names;
      subst_allowance = q.subst_allowance;
      shift_allowance = q.shift_allowance;
    }

report-from : (r : Report) → report_from (told_report r) ≡ r
report-from r =
    ap (λ o.
    record {
      outcome = o;
      beta = r.beta;
      subst = r.subst;
      enter = r.enter;
      leave_fun = r.leave_fun;
      leave_inert = r.leave_inert;
      nodes = r.nodes;
      cells = r.cells;
      names = r.names;
      subst_allowance = r.subst_allowance;
      shift_allowance = r.shift_allowance;
    }) (outcome-from r.outcome)

pub reports-same : {q q' : machine.Report} → machine.report q ≡ machine.report q' → q ≡ q'
reports-same e = cc

-- a number alone is no report
pub not-alone : {k : ℕ} {q : machine.Report} → machine.number_alone k ≡ machine.report q → ⊥
not-alone e = let z : ◌≡◌ {A = ℕ} 0 1 = cc in omega arith

module _ (p s : List ℕ) where
  pub told_same : (q q' : Answer) → Blames p s q → Blames p s q' → told q ≡ told q' → q ≡ q'
  told_same (FileRefused k) (FileRefused j) b b' e =
      ap FileRefused (sym (file-refusal k) ∙ ap file_refusal_of (some-injective (file.number k) (file.number j) (sym b ∙ b')) ∙ file-refusal j)
  told_same (FileRefused k) (PreludeRefused j) b b' e = absurd (none-ne-some (file.number k) (sym b'.0 ∙ b))
  told_same (FileRefused k) (Ran r) b b' e = absurd (not-alone e)
  told_same (PreludeRefused k) (FileRefused j) b b' e = absurd (none-ne-some (file.number j) (sym b.0 ∙ b'))
  told_same (PreludeRefused k) (PreludeRefused j) b b' e =
      ap PreludeRefused
      (sym (prelude-refusal k) ∙ ap prelude_refusal_of (some-injective (prelude.number k) (prelude.number j) (sym b.1 ∙ b'.1)) ∙ prelude-refusal j)
  told_same (PreludeRefused k) (Ran r) b b' e = absurd (not-alone e)
  told_same (Ran r) (FileRefused j) b b' e = absurd (not-alone (sym e))
  told_same (Ran r) (PreludeRefused j) b b' e = absurd (not-alone (sym e))
  told_same (Ran r) (Ran r') b b' e = ap Ran (sym (report-from r) ∙ ap report_from (reports-same e) ∙ report-from r')
