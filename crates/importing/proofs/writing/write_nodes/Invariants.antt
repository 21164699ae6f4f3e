-- The first nodes are stored.
use Rattle.std.proofs.Common.{◌≡◌}
use Rattle.importing.proofs.Files.{stored}
use Rattle.importing.proofs.writing.write_nodes.Given as goal

abbrev pub invariant-loop-i : goal.invariant-loop-i
invariant-loop-i l = l.out ≡ stored l.fn.out l.tags l.args l.n l.i
