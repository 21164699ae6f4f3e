-- The nodes from i on read as codes, whose sizes are those stored from i on.
use Rattle.std.proofs.Common.{◌-◌, ◌≡◌, ◌≤◌, length, take, drop}
use Rattle.termfile.specs.Passes.{nodes_in}
use Rattle.termfile.proofs.Sizes.{Reads}
use Rattle.termfile.proofs.shape.is_term.Given as goal

abbrev pub invariant-loop-i : goal.invariant-loop-i
invariant-loop-i l = record {
  within : l.i ≤ l.n;
  long : length l.sizes ≡ length l.initial.sizes;
  reads : Reads (drop l.i (nodes_in l.parts)) (take (l.n - l.i) (drop l.i l.sizes));
}
