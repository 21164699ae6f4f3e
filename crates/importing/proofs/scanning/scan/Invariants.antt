-- A turn is behind. The measure is the number of bits ahead.
use Rattle.std.proofs.Common.{length}
use Rattle.importing.specs.Ahead.{ahead}
use Rattle.importing.proofs.Turns.{Turn}
use Rattle.importing.proofs.scanning.scan.Given as goal

abbrev pub invariant-loop-spot : goal.invariant-loop-spot
invariant-loop-spot g l = Turn l.f l.bits l.c l.spot l.scratch

abbrev pub decreases-loop-spot : goal.decreases-loop-spot
decreases-loop-spot g l = length (ahead l.bits l.c)
