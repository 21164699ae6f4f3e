-- Every tag is at most 2 where all are known.
use Rattle.std.proofs.Common.{rules}
use Rattle.termfile.proofs.Pairs.{known_told}
use Rattle.termfile.proofs.tags.tags_known.Goals as goal

pub returns : goal.returns
returns c = known_told c.args.parts.tags.now c.all.result (search rules)
