use Rattle.std.proofs.Common.{rules}
use Rattle.importing.proofs.Places.{after-variable}
use Rattle.importing.proofs.placing.Scratch.put_variable.Goals as goal

pub returns-clause-put : goal.returns-clause-put
returns-clause-put g c =
    let s = c.args.self.now in
    λ f p h. rw c.name_of.ensures (after-variable f p c.args.spot s.tags s.args s.names s.apps h g.row.N c.args.k c.requires.ready (search rules) (search rules))
