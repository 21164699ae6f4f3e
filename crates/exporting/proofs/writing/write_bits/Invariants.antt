-- The bits of the first i nodes are put, and with those of the others they are all.
use Rattle.std.proofs.Common.{List, Bool}
use Rattle.exporting.specs.Putting.{Puts}
use Rattle.exporting.proofs.Nodes.{Left}
use Rattle.exporting.proofs.writing.write_bits.Given as goal

abbrev pub invariant-loop-i : goal.invariant-loop-i
invariant-loop-i l = (bs : List Bool) × Puts bs l.initial.writer l.fn.out l.writer l.out × Left l.tags l.indices bs l.i
