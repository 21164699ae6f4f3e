-- The nodes are in order exactly when those from i on are, from `name` on.
use Rattle.std.proofs.Common.{◌≡◌, ◌≤◌, ◌+◌, drop}
use Rattle.termfile.specs.Passes.{nodes_in}
use Rattle.termfile.proofs.Order.{ordered}
use Rattle.termfile.proofs.binders.in_order.Given as goal

abbrev pub invariant-loop-i : goal.invariant-loop-i
invariant-loop-i l = record {
  few : l.name ≤ l.parts.free + l.i;
  same : ordered l.parts.free (nodes_in l.parts) ≡ ordered l.name (drop l.i (nodes_in l.parts));
}
