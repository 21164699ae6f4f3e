-- The first refusal is that of the definitions to come, and each sum is what has been added up and the sum over these.
use Rattle.prelude.specs.Passes.{files_in}
use Rattle.prelude.proofs.Adding.{Adds}
use Rattle.prelude.proofs.definitions.check_each.Given as goal

abbrev pub invariant-loop-file : goal.invariant-loop-file
invariant-loop-file l = record {
  can : (goal.iterator-loop-file).can_next l.file-iterator;
  ends : (goal.iterator-loop-file).is_finite l.file-iterator;
  adds : Adds (files_in l.fn.definitions) (files_in l.file-iterator) l.sums;
}
