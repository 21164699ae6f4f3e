-- What the pass from node i on finds, with what is due and the ends of the abstractions seen, is what is to be found.
use Rattle.std.proofs.Common.{length}
use Rattle.termfile.specs.Passes.{nodes_in}
use Rattle.termfile.proofs.Turn.{Passing}
use Rattle.termfile.proofs.pass.test_nodes.Given as goal

abbrev pub invariant-loop-i : goal.invariant-loop-i
invariant-loop-i l = Passing (nodes_in l.parts) (length l.parts.tags.now) l.parts.free l.ends l.top l.end l.seen l.i
