-- The bytes are cut exactly when the rest is cut into the definitions to come.
use Rattle.std.proofs.Common.{◌≡◌, ◌-◌}
use Rattle.prelude.specs.Prelude.{cut, are_cut}
use Rattle.prelude.proofs.cutting.is_cut.Given as goal

abbrev pub invariant-loop : goal.invariant-loop
invariant-loop l = are_cut (cut l.count l.bytes) ≡ are_cut (cut (l.count - l.counter) l.rest)
