-- What a second call answers and writes, from the contracts of both. The idea: each call answers and writes as defined, for the stores that
-- its arrays make, and the defined answers stay where the stores are longer; longer arrays make longer stores.
-- Assumes nothing.
use Prim.Native.Nat.{ℕ, ◌≤◌, ◌<◌, min}
use mathlib.Core.Path.{◌≡◌, refl, sym, ap, subst, ◌∙◌}
use mathlib.Core.List.{List, map}
use mathlib.Core.Logic.{⊎_map}
use native.Mathlib.Omega.{arith}
use native.Mathlib.Nat.{le_refl}
use lib.ListN.{length, take, drop, length-map}
use Rattle.termfile.specs.Nodes.{Node}
use Rattle.termfile.specs.Output.{overlay}
use Rattle.termfile.proofs.Overlay.{overlay-take, overlay-drop}
use Rattle.termfile.specs.Answer as file
use Rattle.prelude.specs.Answer as prelude
use Rattle.prelude.proofs.Empty.{empty}
use Rattle.tally.specs.Numbers.{number}
use Rattle.tally.specs.declared.Refusal.{Refusal}
use Rattle.tally.specs.declared.Refusal.TheVariants.{Cells, Nodes, Names, Renumber, Output}
use Rattle.machine.specs.declared.Machine.{Machine}
use Rattle.machine.specs.Program.{Program}
use Rattle.machine.specs.Steps.{Kind}
use Rattle.machine.specs.Run.{Stores, counted}
use Rattle.machine.specs.Answer as machine
use Rattle.machine.specs.Answer.{Given, given, answer, written}
use Rattle.machine.specs.Demands as demands
use Rattle.machine.specs.Raising as raising
use Rattle.machine.proofs.Demands as proved
use Rattle.machine.proofs.Outcomes.{written_count}
use Rattle.machine.proofs.Raising.{beginning-counts}
use Rattle.evaluator.specs.Calling.{told_outcome, told_report, told, Blames, BlamesFile}
use Rattle.evaluator.specs.Promise.{Memory, stores_in, Called}
use Rattle.evaluator.specs.declared.Outcome.{Outcome}
use Rattle.evaluator.specs.declared.Outcome.TheVariants.{Normal, Spent, Refused}
use Rattle.evaluator.specs.declared.Report.{Report}
use Rattle.evaluator.specs.declared.Answer.{Answer}
use Rattle.evaluator.specs.declared.Answer.TheVariants.{FileRefused, PreludeRefused, Ran}
use Rattle.again.specs.Again.{Call, IsCall, IsFileCall, store_for, StoresLonger, ArraysLonger, GivenMore, nodes_of, nodes_told, WritesAgain, CalledAgain, IsNormalForm, is_normal_form, MayAnswerElse, was_spent, was_refused, CountsGrow, TwoCalls}
use Rattle.again.proofs.Told.{run_refusal_of, run-refusal, outcome_from, outcome-from, reports-same, not-alone, told_same}

-- the smaller of two numbers is at least as large where both are
min-grows : {a b c d : ℕ} → a ≤ c → b ≤ d → min a b ≤ min c d
min-grows l h = omega (arith, l, h)

-- arrays that are at least as long make stores that are
pub longer-arrays : (m m' : Memory) → ArraysLonger m m' → StoresLonger m m'
longer-arrays m m' h Cells = min-grows h.codes (min-grows h.owns (min-grows h.nexts (le_refl _)))
longer-arrays m m' h Nodes = min-grows h.tags (min-grows h.arguments (le_refl _))
longer-arrays m m' h Names = min-grows h.places (le_refl _)
longer-arrays m m' h Renumber = h.renumber
longer-arrays m m' h Output = min-grows h.output_tags (min-grows h.output_arguments (le_refl _))

pub limits-grow : (budget budget' : ℕ) (m m' : Memory) → budget ≤ budget' → StoresLonger m m' → raising.Raised budget budget' (stores_in m) (stores_in m')
limits-grow budget budget' m m' l h =
    record {
      at_least = l;
      longer = record { nodes = h Nodes; cells = h Cells; names = h Names; renumber = h Renumber; output = h Output };
    }

-- a run with larger limits makes no fewer steps of any kind
pub steps-grow : (M : Machine) (P : Program) (budget budget' : ℕ) (st st' : Stores) → raising.RunsExtend (machine.program_run M P)
    → raising.Raised budget budget' st st' → (k : Kind)
    → counted k (machine.program_run M P budget st).steps ≤ counted k (machine.program_run M P budget' st').steps
steps-grow M P budget budget' st st' extend raised k = beginning-counts k _ _ (extend.begins budget budget' st st' raised)

-- the store of a refusal, by its number
pub longer-store : (m n : Memory) {k : ℕ} → raising.Lengthened (stores_in m) (stores_in n) k → (j : Refusal) → number j ≡ k → store_for j m < store_for j n
longer-store m n l j e = subst (λ v. store_for v m < store_for v n) (sym (ap run_refusal_of e) ∙ run-refusal j) (by l)
  where
    by : {k : ℕ} → raising.Lengthened (stores_in m) (stores_in n) k → store_for (run_refusal_of k) m < store_for (run_refusal_of k) n
    by (raising.Lengthened.cells l) = l
    by (raising.Lengthened.nodes l) = l
    by (raising.Lengthened.names l) = l
    by (raising.Lengthened.renumber l) = l
    by (raising.Lengthened.output l) = l

-- of two arrays over which one list is laid: they begin with it
pub overlay-fronts : (new : List ℕ) (n : ℕ) → length new ≡ n → (old old' : List ℕ) → take n (overlay new old') ≡ take n (overlay new old)
overlay-fronts new n e old old' = overlay-take new old' n e ∙ sym (overlay-take new old n e)

-- two calls whose defined nodes are the same write them
module _ {M : Machine} {g : Given} {budget budget' : ℕ} {q q' : Answer} {m m' n n' : Memory} (a : Called M g budget q m m') (b : Called M g budget' q' n n')
    (same : written M g budget' (stores_in n) ≡ written M g budget (stores_in m)) {count : ℕ} (all : count ≡ length (written M g budget (stores_in m))) where
  abbrev ns : List Node
  ns = written M g budget (stores_in m)

  -- one part of each node, laid over two arrays
  module _ (part : Node → ℕ) (old old' : List ℕ) {l l' : List ℕ} (laid : l ≡ overlay (map part ns) old)
      (laid' : l' ≡ overlay (map part (written M g budget' (stores_in n))) old') where
    part_count : length (map part ns) ≡ count
    part_count = length-map ns part ∙ sym all

    laid_same : l' ≡ overlay (map part ns) old'
    laid_same = laid' ∙ ap (λ v. overlay (map part v) old') same

    fronts : take count l' ≡ take count l
    fronts = ap (take count) laid_same ∙ overlay-fronts (map part ns) count part_count old old' ∙ ap (take count) (sym laid)

    behind : drop count l' ≡ drop count old'
    behind = ap (drop count) laid_same ∙ overlay-drop (map part ns) old' count part_count

  pub writes_again : WritesAgain count m' n n'
  writes_again =
      record {
        tags = fronts (λ v. v.tag) m.output_tags n.output_tags a.output_tags_are b.output_tags_are;
        arguments = fronts (λ v. v.argument) m.output_arguments n.output_arguments a.output_arguments_are b.output_arguments_are;
        tags_behind = behind (λ v. v.tag) m.output_tags n.output_tags a.output_tags_are b.output_tags_are;
        arguments_behind =
            behind (λ v. v.argument) m.output_arguments n.output_arguments a.output_arguments_are b.output_arguments_are;
      }

-- as many nodes are written as the answer tells
told-nodes : (o : Outcome) → nodes_of o ≡ machine.nodes_written (told_outcome o)
told-nodes (Normal n) = refl
told-nodes Spent = refl
told-nodes (Refused k) = refl

told-count : {M : Machine} {g : Given} {budget : ℕ} {st : Stores} {ns : List Node} (q : Answer) → demands.Meets M g budget st (told q) ns
    → nodes_told q ≡ length ns
told-count (FileRefused k) (demands.bytes_refused _ e) = refl
told-count (PreludeRefused k) (demands.bytes_refused _ e) = refl
told-count (Ran r) (demands.program_ran P run q ns e d h) = told-nodes r.outcome ∙ written_count d

-- a normal form is told as one
told-normal : {q : Answer} → IsNormalForm q → demands.IsNormal (told q)
told-normal (is_normal_form r n e) = demands.is_normal _ n (ap told_outcome e)

refusals-same : {j k : ℕ} → machine.refused j ≡ machine.refused k → j ≡ k
refusals-same e = cc

-- what is told of an answer that may change
change-told : {first second : Call} (q : Answer)
    → raising.MayChange first.budget second.budget (stores_in first.before) (stores_in second.before) (told q) → MayAnswerElse first second q
change-told (Ran r) (raising.was_spent _ e l) = was_spent r (sym (outcome-from r.outcome) ∙ ap outcome_from e) l
change-told (FileRefused k) h = elim h [ ]
change-told (PreludeRefused k) h = elim h [ ]
change-told {first} {second} (Ran r) (raising.was_refused _ k e l) = go r.outcome refl
  where
    go : (o : Outcome) → r.outcome ≡ o → MayAnswerElse first second (Ran r)
    go (Normal n) i = absurd (let j = ap told_outcome i in let z : ◌≡◌ {A = ℕ} 0 1 = cc in omega arith)
    go Spent i = absurd (let j = ap told_outcome i in let z : ◌≡◌ {A = ℕ} 0 1 = cc in omega arith)
    go (Refused j) i = was_refused r j i (longer-store first.before second.before l j (refusals-same (sym (ap told_outcome i) ∙ e)))

module _ {M : Machine} {p s : List ℕ} {first second : Call} (a : IsCall M p s first) (b : IsCall M p s second) where
  abbrev g : Given
  g = given p s

  -- what is defined of a call: its answer, and the nodes that it writes
  abbrev defined : Call → machine.Answer
  defined c = answer M g c.budget (stores_in c.before)

  abbrev nodes : Call → List Node
  nodes c = written M g c.budget (stores_in c.before)

  stay : raising.AnswersStay (answer M g) (written M g)
  stay = a.called.stays

  again : raising.Again (defined first) (nodes first) (defined second) (nodes second) → CalledAgain first second
  again h =
      record {
        answer =
            told_same p s second.answer first.answer b.refused a.refused (b.called.answer_is ∙ h.answer ∙ sym a.called.answer_is);
        nodes = writes_again a.called b.called h.nodes (told-count first.answer a.called.meets);
      }

  grown : GivenMore first second → raising.Raised first.budget second.budget (stores_in first.before) (stores_in second.before)
  grown h = limits-grow first.budget second.budget first.before second.before h.budget h.stores

  -- what a report tells is told of the run of the program that is given
  told-run : {c : Call} → IsCall M p s c → (P : Program) → g ≡ machine.program P → (r : Report) → c.answer ≡ Ran r
      → told_report r ≡ machine.report_of M P (stores_in c.before) (machine.program_run M P c.budget (stores_in c.before))
  told-run {c} h P e r i = reports-same (sym (ap told i) ∙ h.called.answer_is ∙ ap (λ v. answer M v c.budget (stores_in c.before)) e)

  counts_grow : GivenMore first second → (r r' : Report) → first.answer ≡ Ran r → second.answer ≡ Ran r' → CountsGrow r r'
  counts_grow h r r' i i' = by g refl
    where
      more : (P : Program) → g ≡ machine.program P → (k : Kind)
          → counted k (machine.program_run M P first.budget (stores_in first.before)).steps
          ≤ counted k (machine.program_run M P second.budget (stores_in second.before)).steps
      more P e k = steps-grow M P _ _ _ _ (a.called.extends P e) (grown h) k

      by : (v : Given) → g ≡ v → CountsGrow r r'
      by (machine.number k) e =
          absurd (not-alone (sym (ap (λ v. answer M v first.budget (stores_in first.before)) e) ∙ sym a.called.answer_is ∙ ap told i))
      by (machine.program P) e =
          let t = told-run a P e r i in
          let t' = told-run b P e r' i' in
          record {
            beta = omega (arith, ap (λ q. q.beta) t, ap (λ q. q.beta) t', more P e Kind.beta);
            subst = omega (arith, ap (λ q. q.subst) t, ap (λ q. q.subst) t', more P e Kind.subst);
            enter = omega (arith, ap (λ q. q.enter) t, ap (λ q. q.enter) t', more P e Kind.enter);
            leave_fun = omega (arith, ap (λ q. q.leave_fun) t, ap (λ q. q.leave_fun) t', more P e Kind.leave_fun);
            leave_inert = omega (arith, ap (λ q. q.leave_inert) t, ap (λ q. q.leave_inert) t', more P e Kind.leave_inert);
          }

  normal : {c : Call} → IsCall M p s c → IsNormalForm c.answer → demands.IsNormal (defined c)
  normal c n = subst demands.IsNormal c.called.answer_is (told-normal n)

  pub two-calls : TwoCalls first second
  two-calls =
      record {
        normal_again = λ h n. again (stay.normal_again _ _ _ _ (grown h) (normal a n));
        one_normal = λ n n'. again (stay.one_normal _ _ _ _ (normal a n) (normal b n'));
        changes =
            λ h.
            ⊎_map again
            (λ w. change-told first.answer (subst (raising.MayChange _ _ _ _) (sym a.called.answer_is) w)) (stay.changes _ _ _ _ (grown h));
        counts_grow = counts_grow;
        file_refused = λ k e. again (stay.number_again _ _ _ _ (file.number k) (sym a.called.answer_is ∙ ap told e));
        prelude_refused = λ k e. again (stay.number_again _ _ _ _ (prelude.number k) (sym a.called.answer_is ∙ ap told e));
      }

-- a call without a prelude is one with the empty prelude
with_none : {M : Machine} {s : List ℕ} {c : Call} → IsFileCall M s c → IsCall M empty s c
with_none {M} {s} {c} h =
    record {
      refused = by c.answer h.refused;
      called = subst (λ v. Called M v c.budget c.answer c.before c.after) (sym (proved.no-definitions s)) h.called;
    }
  where
    by : (q : Answer) → BlamesFile s q → Blames empty s q
    by (FileRefused k) e = e
    by (PreludeRefused k) e = absurd e
    by (Ran r) e = e

pub two-file-calls : {M : Machine} {s : List ℕ} {first second : Call} → IsFileCall M s first → IsFileCall M s second → TwoCalls first second
two-file-calls a b = two-calls (with_none a) (with_none b)
