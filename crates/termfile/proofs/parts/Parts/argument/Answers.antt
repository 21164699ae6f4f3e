-- Argument i stands at the bytes 2 i and 2 i + 1.
use Rattle.std.proofs.Common.{◌*◌, refl, sym, add-one, arith}
use Rattle.termfile.proofs.Pairs.{get_or_words}
use Rattle.termfile.proofs.parts.Parts.argument.Goals as goal

pub returns-clause-value : goal.returns-clause-value
returns-clause-value c =
    rw (c.word_at.ensures.value, add-one) (sym (get_or_words c.args.self.arguments.now c.args.i (2 * c.args.i) refl (omega arith)))
