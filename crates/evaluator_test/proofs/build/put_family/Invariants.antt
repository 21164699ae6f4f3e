-- The loop ends at the last node.
use Rattle.std.proofs.Common.{◌≤◌, ◌-◌}
use Rattle.evaluator_test.proofs.build.put_family.Given as goal

abbrev pub invariant-loop-i : goal.invariant-loop-i
invariant-loop-i l = l.i ≤ l.n

abbrev pub decreases-loop-i : goal.decreases-loop-i
decreases-loop-i l = l.n - l.i
