-- Every answer that `evaluate_with` gives can be told, and the nodes at the front of the output arrays are those that the call writes. What is
-- used of the demands stands here: the result fits the output, and the shifting steps are within their allowance.
-- Letters: P is a program, g what the bytes give, st the stores' lengths, a is the answer, ns are the nodes written, ts and ms the output arrays.
-- Assumes nothing.
use Prim.Native.Nat.{ℕ, ◌+◌, ◌*◌, ◌^◌, ◌≤◌, ◌<◌, zero-le}
use mathlib.Core.Path.{◌≡◌, refl, sym, ap, subst, ◌∙◌, subst₂}
use mathlib.Core.List.{List, [], ◌∷◌, map}
use native.Mathlib.Omega.{arith}
use native.Mathlib.Nat.{le_refl, mul-le-mul_left}
use lib.ListN.{length, take, drop, length-append, length-map}
use lib.Seq.{take-length}
use Rattle.termfile.specs.Nodes.{Node}
use Rattle.termfile.specs.File.{pairs}
use Rattle.machine.specs.declared.Machine.{Machine}
use Rattle.machine.specs.Steps.{Kind, Move}
use Rattle.machine.specs.Run.{Stores, Run, counted, shifts, allowed_shifts}
use Rattle.machine.specs.Conditions.{Condition, result_fits, result_refused, run_spent, run_refused}
use Rattle.termfile.specs.Output.{overlay}
use Rattle.termfile.proofs.Overlay.{overlay-take}
use Rattle.machine.specs.Program.{Program, applications_of}
use Rattle.machine.specs.Answer.{Given, Outcome, nodes_written, Report, Answer, written, output_limit}
use Rattle.machine.specs.Demands.{Demand3, Meets, bytes_refused, program_ran}
use Rattle.machine.proofs.Outcomes.{written_count}
use Rattle.evaluator.specs.Calling.{told, most_counted}
use Rattle.evaluator.proofs.Promises.{Few}
use Rattle.evaluator.specs.Promise.{Memory, stores_in, Called}
use Rattle.evaluator.specs.declared.Answer as enum
use Rattle.rendering.specs.Lines.{shift_sum, lines, text_of}
use Rattle.rendering.specs.Promise.{nodes_in, Tellable}

condition-fits : {M : Machine} {P : Program} {budget : ℕ} {st : Stores} {r : Run} {o : Outcome} → Condition M P budget st r o → nodes_written o ≤ st.output
condition-fits (result_fits e n h) = h
condition-fits (result_refused k e h) = zero-le
condition-fits (run_spent e) = zero-le
condition-fits (run_refused k e) = zero-le

shifts-are : (ms : List Move) → shifts ms ≡ counted Kind.enter ms + (counted Kind.leave_fun ms + counted Kind.leave_inert ms)
shifts-are [] = refl
shifts-are (m ∷ ms) = omega (arith, shifts-are ms)

-- the shifting steps are within their allowance, and that of a budget of 32 bits is a number of 64
steps-fit : {M : Machine} {P : Program} {budget : ℕ} {st : Stores} {r : Run} {q : Report} → applications_of P ≤ most_counted → budget < 2 ^ 32 → Demand3 M P budget st r q → shift_sum q < 2 ^ 64
steps-fit {P = P} {budget = budget} {st = st} {r = r} {q = q} small few d =
    let betas = counted Kind.beta r.steps in
    let within : shifts r.steps ≤ allowed_shifts betas (applications_of P) =
    subst (λ ms. shifts ms ≤ allowed_shifts (counted Kind.beta ms) (applications_of P)) (take-length r.steps)
    (d.beginnings (length r.steps) (le_refl (length r.steps))).shifting in
    let c = d.reported in
    omega (
      arith,
      within,
      shifts-are r.steps,
      c.enters,
      c.leave_funs,
      c.leave_inerts,
      d.is_run.in_budget,
      mul-le-mul_left ((1 + betas) * 2) small,
    )

-- nodes by their tags and arguments
pairs-split : (ns : List Node) → pairs (map (λ n. n.tag) ns) (map (λ n. n.argument) ns) ≡ ns
pairs-split [] = refl
pairs-split (n ∷ ns) = ap (λ rest. n ∷ rest) (pairs-split ns)

overlay-longer : (new old : List ℕ) → length new ≤ length (overlay new old)
overlay-longer new old = omega (arith, length-append new (drop (length new) old))

-- of an answer that meets the demands, and of the output arrays that the nodes are written to
pub record Told (a : Answer) (ns : List Node) (ts ms : List ℕ) : Type 0 where
  pub tellable : Tellable a ts ms
  pub nodes_are : nodes_in a ts ms ≡ ns

meets-given : {M : Machine} {g : Given} {budget : ℕ} {st : Stores} {a : Answer} {ns : List Node} → budget < 2 ^ 32 → st.output ≤ output_limit → Few g → Meets M g budget st a ns
    → (ts ms : List ℕ) → Told a ns (overlay (map (λ n. n.tag) ns) ts) (overlay (map (λ n. n.argument) ns) ms)
meets-given few limit small (bytes_refused k e) ts ms = record { tellable = tt; nodes_are = refl }
meets-given few limit small (program_ran P r q ns e two three) ts ms =
    let tags = map (λ n. n.tag) ns in
    let arguments = map (λ n. n.argument) ns in
    let count = written_count two in
    let tags-count : length tags ≡ length ns = length-map ns (λ n. n.tag) in
    let arguments-count : length arguments ≡ length ns = length-map ns (λ n. n.argument) in
    record {
      tellable =
          record {
            within_limit = omega (arith, condition-fits ((two.exactly q.outcome).0 refl));
            within_tags = omega (arith, count, tags-count, overlay-longer tags ts);
            within_arguments = omega (arith, count, arguments-count, overlay-longer arguments ms);
            sum_fits = steps-fit (subst Few e small) few three;
          };
      nodes_are =
          ap (λ n. pairs (take n (overlay tags ts)) (take n (overlay arguments ms))) count
          ∙ ap (λ n. pairs (take n (overlay tags ts)) (take (length ns) (overlay arguments ms))) (sym tags-count)
          ∙ ap (λ n. pairs (take (length tags) (overlay tags ts)) (take n (overlay arguments ms))) (sym arguments-count)
          ∙ ap (λ l. pairs l (take (length arguments) (overlay arguments ms))) (overlay-take tags ts (length tags) refl)
          ∙ ap (pairs tags) (overlay-take arguments ms (length arguments) refl)
          ∙ pairs-split ns;
    }

-- of a call
pub called-given : {M : Machine} {g : Given} {budget : ℕ} {q : enum.Answer} {m m' : Memory} → budget < 2 ^ 32 → Few g → Called M g budget q m m'
    → Told (told q) (written M g budget (stores_in m)) m'.output_tags m'.output_arguments
called-given {M} {g} {budget} {q} {m} {m'} few small c =
    subst₂ (λ ts ms. Told (told q) (written M g budget (stores_in m)) ts ms) (sym c.output_tags_are) (sym c.output_arguments_are)
    (meets-given few (omega arith) small c.meets m.output_tags m.output_arguments)

-- the text that is rendered after a call is the text of the call
pub called-text : {M : Machine} {g : Given} {budget : ℕ} {q : enum.Answer} {m m' : Memory} → budget < 2 ^ 32 → Few g → Called M g budget q m m'
    → lines (told q) (nodes_in (told q) m'.output_tags m'.output_arguments) ≡ text_of M g budget (stores_in m)
unfolding text_of
called-text {M} {g} {budget} {q} {m} {m'} few small c =
    ap (lines (told q)) (called-given few small c).nodes_are ∙ ap (λ a. lines a (written M g budget (stores_in m))) c.answer_is
