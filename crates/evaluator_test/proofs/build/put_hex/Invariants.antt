-- No more digits are counted than bytes passed, and the higher digit is below 16.
use Rattle.std.proofs.Common.{◌≤◌, ◌<◌, ◌-◌, length}
use Rattle.evaluator_test.proofs.build.put_hex.Given as goal

abbrev pub invariant-loop-i : goal.invariant-loop-i
invariant-loop-i l = (l.digits ≤ l.i) × (l.i ≤ length l.text) × (l.high < 16)

abbrev pub decreases-loop-i : goal.decreases-loop-i
decreases-loop-i l = length l.text - l.i
