-- A definition of which no byte is missing is cut off.
use Rattle.std.proofs.Common.{◌+◌, ◌-◌, ◌∙◌, arith}
use Rattle.prelude.proofs.Files.{cut-turn}
use Rattle.prelude.proofs.cutting.is_cut.Goals as goal

pub loop-preserved : goal.loop-preserved
loop-preserved c =
    c.loop.invariant
    ∙ cut-turn _ (c.args.count - (c.loop.counter + 1)) c.file_length-length.result _ c.loop.rest.now (omega arith) c.file_length-length.ensures (omega arith) (omega arith)
