-- No definition to come is refused, and all are abstractions exactly when these are.
use Rattle.std.proofs.Common.{◌≡◌}
use Rattle.std.proofs.Math.Option.{none}
use Rattle.prelude.specs.Prelude.{each_refusal, all_abstractions}
use Rattle.prelude.specs.Passes.{files_in}
use Rattle.prelude.proofs.heads.all_abstractions.Given as goal

abbrev pub invariant-loop-file : goal.invariant-loop-file
invariant-loop-file l = record {
  can : (goal.iterator-loop-file).can_next l.file-iterator;
  ends : (goal.iterator-loop-file).is_finite l.file-iterator;
  accepts : each_refusal (files_in l.file-iterator) ≡ none;
  same : all_abstractions (files_in l.fn.definitions) ≡ all_abstractions (files_in l.file-iterator);
}
