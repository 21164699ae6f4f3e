-- The nodes before the argument are counted, at most 7 bytes for each.
use Rattle.std.proofs.Common.{◌≡◌, ◌+◌, ◌*◌, ◌≤◌, drop}
use Rattle.rendering.specs.Putting.{nodes_bytes}
use Rattle.rendering.proofs.nodes.nodes_bytes.Given as goal

abbrev pub invariant-loop-argument : goal.invariant-loop-argument
invariant-loop-argument l =
    record {
      counted : l.bytes + nodes_bytes (drop l.argument-index l.args) ≡ nodes_bytes l.args;
      few : l.bytes ≤ 7 * l.argument-index;
    }
