-- No more letters are counted than bytes passed, and an item stays below 65,536.
use Rattle.std.proofs.Common.{◌≤◌, ◌<◌, ◌-◌, length}
use Rattle.termfile_test.proofs.build.put_term.Given as goal

abbrev pub invariant-loop-i : goal.invariant-loop-i
invariant-loop-i l = (l.letters ≤ l.i) × (l.i ≤ length l.text) × (l.number < 65536)

abbrev pub decreases-loop-i : goal.decreases-loop-i
decreases-loop-i l = length l.text - l.i
