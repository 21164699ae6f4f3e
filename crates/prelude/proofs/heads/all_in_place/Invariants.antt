-- All definitions are in place exactly when those to come are, from their place on.
use Rattle.std.proofs.Common.{◌≡◌}
use Rattle.prelude.specs.Prelude.{in_place}
use Rattle.prelude.specs.Passes.{files_in}
use Rattle.prelude.proofs.heads.all_in_place.Given as goal

abbrev pub invariant-loop-place : goal.invariant-loop-place
invariant-loop-place l = record {
  can : (goal.iterator-loop-place).can_next l.place-iterator;
  ends : (goal.iterator-loop-place).is_finite l.place-iterator;
  same : in_place 0 (files_in l.fn.definitions) ≡ in_place l.place-iterator.count (files_in l.place-iterator.iter);
}
