-- The calls are at most three.
use Rattle.std.proofs.Common.{◌-◌}
use Rattle.evaluator_test.proofs.with_arrays.Given as goal

abbrev pub decreases-loop-round : goal.decreases-loop-round
decreases-loop-round g l = 3 - l.round
