-- What is left of the bits is padding exactly when what is ahead is zeros.
use Rattle.std.proofs.Common.{◌≡◌, length}
use Rattle.binary.specs.Answer.{zeros, padding}
use Rattle.importing.specs.Ahead.{ahead}
use Rattle.importing.proofs.padding.is_padding.Given as goal

abbrev pub invariant-loop-one : goal.invariant-loop-one
invariant-loop-one l = padding (ahead l.bits l.fn.start) ≡ zeros (ahead l.bits l.c)

abbrev pub decreases-loop-one : goal.decreases-loop-one
decreases-loop-one l = length (ahead l.bits l.c)
