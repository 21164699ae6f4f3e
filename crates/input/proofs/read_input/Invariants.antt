-- No more is counted than the buffer holds, and what is left of it falls, as a turn that reads nothing is the last.
use Rattle.std.proofs.Common.{◌≤◌, ◌-◌, length}
use Rattle.input.proofs.read_input.Given as goal

abbrev pub invariant-loop-done : goal.invariant-loop-done
invariant-loop-done g l = l.done ≤ length l.buf

abbrev pub decreases-loop-done : goal.decreases-loop-done
decreases-loop-done g l = length l.buf - l.done
