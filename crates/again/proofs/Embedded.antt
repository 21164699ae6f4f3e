-- What a second call from another language returns and writes, from the contracts of both. The idea: status and numbers are those of the
-- defined answer, which stays where the stores are longer.
-- Assumes nothing.
use Prim.Native.Nat.{ℕ, ◌≤◌, ◌<◌}
use mathlib.Core.Path.{◌≡◌, refl, sym, ap, subst, ◌∙◌}
use mathlib.Core.Bool.{cond}
use mathlib.Core.List.{List}
use mathlib.Core.Logic.{⊎_map}
use Rattle.std.specs.Prelude.{Result}
use native.Mathlib.Omega.{arith}
use lib.Dec.{eqb}
use lib.ListN.{length, take, drop, get_or}
use Rattle.termfile.specs.Nodes.{Node}
use Rattle.termfile.specs.Output.{overlay}
use Rattle.termfile.proofs.Overlay.{overlay-drop}
use Rattle.tally.specs.Numbers as tally
use Rattle.machine.specs.declared.Machine.{Machine}
use Rattle.machine.specs.Program.{Program}
use Rattle.machine.specs.Steps.{Kind}
use Rattle.machine.specs.Run.{Stores}
use Rattle.machine.specs.Answer.{Given, number, program, program_run, Outcome, normal, spent, refused, Answer, number_alone, report, report_of, answer, written}
use Rattle.machine.specs.Demands.{IsNormal, is_normal, Meets, bytes_refused, program_ran}
use Rattle.machine.specs.Raising as raising
use Rattle.machine.proofs.Outcomes.{written_count}
use Rattle.evaluator.specs.Promise.{stores_in, Called}
use Rattle.evaluator.specs.declared.Answer as enum
use Rattle.embed.specs.Embedding.{outcome_status, status_of, refusal_of, numbers_of, EmbeddedOn, EmbeddedBy, on_machine, no_machine}
use Rattle.machine.specs.Naming.{named_by}
use Rattle.machine.specs.declared.UnknownMachine.{UnknownMachine}
use Rattle.again.specs.Embedded.{EmbeddedCall, IsEmbeddedCall, IsEmbeddedFileCall, numbers_reported, EmbeddedAgain, MayReturnElse, was_spent, was_refused, EmbeddedMore, NumbersGrow, TwoEmbeddedCalls}
use Rattle.again.proofs.Told.{run_refusal_of}
use Rattle.again.proofs.Again.{limits-grow, steps-grow, longer-store, overlay-fronts, writes_again}

-- of an answer: as many numbers are told as its status says, and as many nodes as they say
report-count : (o : Outcome) {A : Type 0} (x y : A) → cond (eqb (outcome_status o) 3) x y ≡ y
report-count (normal n) x y = refl
report-count spent x y = refl
report-count (refused k) x y = refl

numbers-count : (a : Answer) → cond (eqb (status_of a) 3) 1 12 ≡ length (numbers_of a)
numbers-count (number_alone k) = refl
numbers-count (report q) = report-count q.outcome 1 12

nodes-count : {M : Machine} {g : Given} {budget : ℕ} {st : Stores} {a : Answer} {ns : List Node} → Meets M g budget st a ns → (old : List ℕ)
    → cond (eqb (status_of a) 3) 0 (get_or (overlay (numbers_of a) old) 1 0) ≡ length ns
nodes-count (bytes_refused k e) old = refl
nodes-count (program_ran P r q ns e d h) old = report-count q.outcome 0 _ ∙ written_count d

-- what a status tells of the answer
status-normal : (a : Answer) → status_of a ≡ 0 → IsNormal a
status-normal (number_alone k) e = absurd (omega (arith, e))
status-normal (report q) e = go q.outcome refl e
  where
    go : (o : Outcome) → q.outcome ≡ o → outcome_status o ≡ 0 → IsNormal (report q)
    go (normal n) i e = is_normal q n i
    go spent i e = absurd (omega (arith, e))
    go (refused k) i e = absurd (omega (arith, e))

status-alone : (a : Answer) → status_of a ≡ 3 → (k : ℕ) × (a ≡ number_alone k)
status-alone (number_alone k) e = (k, refl)
status-alone (report q) e = absurd (go q.outcome e)
  where
    go : (o : Outcome) → outcome_status o ≡ 3 → ⊥
    go (normal n) e = omega (arith, e)
    go spent e = omega (arith, e)
    go (refused k) e = omega (arith, e)

number-of : {st st' : Stores} {k : ℕ} → raising.Lengthened st st' k → tally.number (run_refusal_of k) ≡ k
number-of (raising.Lengthened.cells l) = refl
number-of (raising.Lengthened.nodes l) = refl
number-of (raising.Lengthened.names l) = refl
number-of (raising.Lengthened.renumber l) = refl
number-of (raising.Lengthened.output l) = refl

module _ (first second : EmbeddedCall) where
  change-told : (a : Answer) → raising.MayChange first.budget second.budget (stores_in first.before) (stores_in second.before) a
      → first.status ≡ status_of a → first.report_after ≡ overlay (numbers_of a) first.report_before → MayReturnElse first second
  change-told _ (raising.was_spent q e l) i r = was_spent (i ∙ ap outcome_status e) l
  change-told _ (raising.was_refused q k e l) i r =
      was_refused (run_refusal_of k) (i ∙ ap outcome_status e) (ap (λ v. get_or v 0 0) r ∙ ap refusal_of e ∙ sym (number-of l))
      (longer-store first.before second.before l (run_refusal_of k) (number-of l))

-- a call that is made, as its report array is long enough
record Made (M : Machine) (g : Given) (c : EmbeddedCall) : Type 0 where
  answered : enum.Answer
  called : Called M g c.budget answered c.before c.after
  status_is : c.status ≡ status_of (answer M g c.budget (stores_in c.before))
  report_is : c.report_after ≡ overlay (numbers_of (answer M g c.budget (stores_in c.before))) c.report_before

abbrev On : Machine → Given → EmbeddedCall → Type 0
On M g c = EmbeddedOn M g c.budget c.status c.before c.after c.report_before c.report_after

made : {M : Machine} {g : Given} {c : EmbeddedCall} → On M g c → 12 ≤ length c.report_before → Made M g c
made e l = record { answered = (e.called l).0; called = (e.called l).1; status_is = e.status l; report_is = e.numbers l }

-- a status of 0 to 3 is that of a call which is made
status-made : {M : Machine} {g : Given} {c : EmbeddedCall} → On M g c → c.status ≤ 3 → Made M g c
status-made {c = c} e l = made e (omega (arith, long))
  where
    long : length c.report_before < 12 → ⊥
    long short = omega (arith, l, e.short_status short)

module _ {M : Machine} {g : Given} {first second : EmbeddedCall} (a : Made M g first) (b : Made M g second) where
  abbrev defined : EmbeddedCall → Answer
  defined c = answer M g c.budget (stores_in c.before)

  abbrev nodes : EmbeddedCall → List Node
  nodes c = written M g c.budget (stores_in c.before)

  again : raising.Again (defined first) (nodes first) (defined second) (nodes second) → EmbeddedAgain first second
  again h =
      let numbers = sym (ap (λ k. cond (eqb k 3) 1 12) a.status_is ∙ numbers-count (defined first)) in
      let laid = b.report_is ∙ ap (λ v. overlay (numbers_of v) second.report_before) h.answer in
      record {
        status = b.status_is ∙ ap status_of h.answer ∙ sym a.status_is;
        report =
            ap (take (numbers_reported first)) laid
            ∙ overlay-fronts (numbers_of (defined first)) (numbers_reported first) numbers first.report_before second.report_before
            ∙ ap (take (numbers_reported first)) (sym a.report_is);
        report_behind = ap (drop (numbers_reported first)) laid ∙ overlay-drop (numbers_of (defined first)) second.report_before (numbers_reported first) numbers;
        nodes = writes_again a.called b.called h.nodes count;
      }
    where
      count : cond (eqb first.status 3) 0 (get_or first.report_after 1 0) ≡ length (nodes first)
      count =
          ap (λ k. cond (eqb k 3) 0 (get_or first.report_after 1 0)) a.status_is
          ∙ ap (λ r. cond (eqb (status_of (defined first)) 3) 0 (get_or r 1 0)) a.report_is
          ∙ nodes-count (subst (λ v. Meets M g first.budget (stores_in first.before) v (nodes first)) a.called.answer_is a.called.meets) first.report_before

  -- what the report array of a run's call holds, by the program that is given
  report-of : {c : EmbeddedCall} → Made M g c → (P : Program) → g ≡ program P
      → c.report_after ≡ overlay (numbers_of (report (report_of M P (stores_in c.before) (program_run M P c.budget (stores_in c.before))))) c.report_before
  report-of {c} h P e = h.report_is ∙ ap (λ v. overlay (numbers_of (answer M v c.budget (stores_in c.before))) c.report_before) e

  numbers-grow : raising.Raised first.budget second.budget (stores_in first.before) (stores_in second.before) → first.status ≤ 2 → NumbersGrow first second
  numbers-grow raised n = by g refl
    where
      by : (v : Given) → g ≡ v → NumbersGrow first second
      by (number k) e = absurd (omega (arith, n, a.status_is ∙ ap (λ v. status_of (answer M v first.budget (stores_in first.before))) e))
      by (program P) e =
          let t = report-of a P e in
          let t' = report-of b P e in
          let more = steps-grow M P _ _ _ _ (a.called.extends P e) raised in
          record {
            beta = omega (arith, ap (λ v. get_or v 2 0) t, ap (λ v. get_or v 2 0) t', more Kind.beta);
            subst = omega (arith, ap (λ v. get_or v 3 0) t, ap (λ v. get_or v 3 0) t', more Kind.subst);
            enter = omega (arith, ap (λ v. get_or v 4 0) t, ap (λ v. get_or v 4 0) t', more Kind.enter);
            leave_fun = omega (arith, ap (λ v. get_or v 5 0) t, ap (λ v. get_or v 5 0) t', more Kind.leave_fun);
            leave_inert = omega (arith, ap (λ v. get_or v 6 0) t, ap (λ v. get_or v 6 0) t', more Kind.leave_inert);
          }

grown : {first second : EmbeddedCall} → EmbeddedMore first second
    → raising.Raised first.budget second.budget (stores_in first.before) (stores_in second.before)
grown {first} {second} h = limits-grow first.budget second.budget first.before second.before h.budget h.stores

-- by what the number names, for both calls
two : {g : Given} {first second : EmbeddedCall} (n : Result Machine UnknownMachine) → EmbeddedBy g first.budget first.status first.before first.after first.report_before first.report_after n
    → EmbeddedBy g second.budget second.status second.before second.after second.report_before second.report_after n → TwoEmbeddedCalls first second
two {g} {first} {second} _ (on_machine M e) (on_machine _ i) =
    record {
      normal_again =
          λ h n.
          let a = status-made e (omega (arith, n)) in
          again a (made i h.report) (a.called.stays.normal_again _ _ _ _ (grown h) (status-normal _ (sym a.status_is ∙ n)));
      one_normal =
          λ n n'.
          let a = status-made e (omega (arith, n)) in
          let b = status-made i (omega (arith, n')) in
          again a b (a.called.stays.one_normal _ _ _ _ (status-normal _ (sym a.status_is ∙ n)) (status-normal _ (sym b.status_is ∙ n')));
      changes =
          λ h n.
          let a = status-made e n in
          ⊎_map (again a (made i h.report)) (λ w. change-told first second _ w a.status_is a.report_is) (a.called.stays.changes _ _ _ _ (grown h));
      counts_grow = λ h n. numbers-grow (status-made e (omega (arith, n))) (made i h.report) (grown h) n;
      bytes_refused =
          λ r n.
          let a = status-made e (omega (arith, n)) in
          let w = status-alone _ (sym a.status_is ∙ n) in
          again a (made i r) (a.called.stays.number_again _ _ _ _ w.0 w.1);
    }
two _ (no_machine u e) (no_machine _ i) =
    record {
      normal_again = λ h n. absurd (omega (arith, n, e.status_five));
      one_normal = λ n n'. absurd (omega (arith, n, e.status_five));
      changes = λ h n. absurd (omega (arith, n, e.status_five));
      counts_grow = λ h n. absurd (omega (arith, n, e.status_five));
      bytes_refused = λ r n. absurd (omega (arith, n, e.status_five));
    }

pub two-embedded-calls : (k : ℕ) (p s : List ℕ) {first second : EmbeddedCall} → IsEmbeddedCall k p s first → IsEmbeddedCall k p s second
    → TwoEmbeddedCalls first second
two-embedded-calls k p s a b = two (named_by k) a b

pub two-embedded-file-calls : (k : ℕ) (s : List ℕ) {first second : EmbeddedCall} → IsEmbeddedFileCall k s first → IsEmbeddedFileCall k s second
    → TwoEmbeddedCalls first second
two-embedded-file-calls k s a b = two (named_by k) a b
