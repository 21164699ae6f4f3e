-- The loop begins at the front.
use Rattle.std.proofs.Common.{◌≤◌, ◌-◌}
use Rattle.termfile_test.proofs.build.put_from.Given as goal

abbrev pub invariant-loop-i : goal.invariant-loop-i
invariant-loop-i l = l.front ≤ l.i

abbrev pub decreases-loop-i : goal.decreases-loop-i
decreases-loop-i l = l.n - l.i
