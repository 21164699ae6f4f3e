-- No more spaces are counted than bytes passed, and the number stays below 2 ^ 32.
use Rattle.std.proofs.Common.{◌≤◌, ◌<◌, ◌-◌, length}
use Rattle.evaluator_test.proofs.text.number.Given as goal

abbrev pub invariant-loop-i : goal.invariant-loop-i
invariant-loop-i l = (l.passed ≤ l.i) × (l.i ≤ length l.text) × (l.value < 4294967296)

abbrev pub decreases-loop-i : goal.decreases-loop-i
decreases-loop-i l = length l.text - l.i
