use Rattle.std.proofs.Common.{refl, ◌∙◌, arith}
use Rattle.importing.proofs.Files.{stored_more, stored-all}
use Rattle.importing.proofs.writing.write_nodes.Goals as goal

pub loop-i-preserved : goal.loop-i-preserved
loop-i-preserved c =
    stored_more c.args.out.now c.args.tags.now c.args.args.now _ refl c.requires.same_length c.loop-i.i c.loop-i-test.true c.loop-i.out c.loop-i.invariant

pub returns : goal.returns
returns c = c.loop-i.invariant ∙ stored-all c.args.out.now c.args.tags.now c.args.args.now _ refl c.requires.same_length c.loop-i.i (omega arith)
