-- The loop begins at the place.
use Rattle.std.proofs.Common.{◌≤◌, ◌-◌}
use Rattle.evaluator_test.proofs.kept.kept_bytes.Given as goal

abbrev pub invariant-loop-i : goal.invariant-loop-i
invariant-loop-i l = l.from ≤ l.i

abbrev pub decreases-loop-i : goal.decreases-loop-i
decreases-loop-i l = 33000 - l.i
