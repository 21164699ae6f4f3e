use Rattle.std.proofs.Common.{rules}
use Rattle.importing.proofs.Places.{before-left}
use Rattle.importing.proofs.placing.Scratch.put_application.Goals as goal

pub returns-clause-put : goal.returns-clause-put
returns-clause-put g c = let s = c.args.self.now in λ f p h. before-left f p c.args.spot s.tags s.args s.names s.apps h g.row.N c.requires (search rules) (search rules) (search rules)
