-- Each turn of the loop adds the counts of a definition that is accepted; one that is refused has the first refusal.
use Rattle.std.proofs.Common.{◌+◌, ◌<◌, length, arith}
use Rattle.prelude.specs.Passes.{files_in}
use Rattle.prelude.proofs.Files.{listed-length}
use Rattle.prelude.proofs.Adding.{Adds, adds_begin, adds_more}
use Rattle.prelude.proofs.definitions.check_each.Goals as goal
use Rattle.prelude.proofs.definitions.check_each.Goals.{In_ok-counts}

pub loop-file-init : goal.loop-file-init
loop-file-init c =
    let ds = c.args.definitions in
    let few : length (files_in ds) < 65536 = omega (arith, ds.few, listed-length ds.count ds.bytes.now ds.whole) in
    record { can = tt; ends = tt; adds = rw c.into_iter-file-iterator.ensures.into_iter_gives (adds_begin (files_in ds) few) }

-- behind the counts of a definition that is accepted
added : (c : In_ok-counts)
    → let m = c.loop-file.sums in
    let n = c.in_ok-counts.counts in
    Adds (files_in c.args.definitions) (files_in c.next.new.self)
    (record {
      definitions = m.definitions + 1;
      nodes = m.nodes + n.nodes;
      abstractions = m.abstractions + n.abstractions;
      variables = m.variables + n.variables;
      applications = m.applications + n.applications;
    })
added c = adds_more c.loop-file.invariant.adds c.in-Some.ensures.steps _ c.in_ok-counts.ensures

pub overflow_add-sums-in-loop-file : goal.overflow_add-sums-in-loop-file
overflow_add-sums-in-loop-file c =
    let adds = added (goal.at.overflow_add-sums-in-loop-file c).In_ok-counts in
    omega (arith, adds.many, adds.few, adds.nodes.few)

pub overflow_add-sums-in-loop-file-2 : goal.overflow_add-sums-in-loop-file-2
overflow_add-sums-in-loop-file-2 c =
    let adds = added (goal.at.overflow_add-sums-in-loop-file-2 c).In_ok-counts in
    omega (arith, adds.many, adds.few, adds.abstractions.few)

pub overflow_add-sums-in-loop-file-3 : goal.overflow_add-sums-in-loop-file-3
overflow_add-sums-in-loop-file-3 c =
    let adds = added (goal.at.overflow_add-sums-in-loop-file-3 c).In_ok-counts in
    omega (arith, adds.many, adds.few, adds.variables.few)

pub overflow_add-sums-in-loop-file-4 : goal.overflow_add-sums-in-loop-file-4
overflow_add-sums-in-loop-file-4 c =
    let adds = added (goal.at.overflow_add-sums-in-loop-file-4 c).In_ok-counts in
    omega (arith, adds.many, adds.few, adds.applications.few)

pub loop-file-preserved : goal.loop-file-preserved
loop-file-preserved c = record { can = tt; ends = tt; adds = added (goal.at.loop-file-preserved c).In_ok-counts }
