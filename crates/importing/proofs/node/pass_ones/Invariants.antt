-- From the start up to the cursor there are j ones.
use Rattle.std.proofs.Common.{◌≡◌, ℕ, true, ◌++◌, length, replicate}
use Rattle.importing.specs.Ahead.{ahead, Behind}
use Rattle.importing.proofs.node.pass_ones.Given as goal

abbrev pub invariant-loop-one : goal.invariant-loop-one
invariant-loop-one l = (j : ℕ) × (ahead l.bits l.fn.start ≡ replicate j true ++ ahead l.bits l.c) × Behind l.fn.start j l.c

abbrev pub decreases-loop-one : goal.decreases-loop-one
decreases-loop-one l = length (ahead l.bits l.c)
