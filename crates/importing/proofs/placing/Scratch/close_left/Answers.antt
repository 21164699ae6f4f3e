use Rattle.importing.proofs.Places.{before-right}
use Rattle.importing.proofs.placing.Scratch.close_left.Goals as goal

pub returns-clause-closed : goal.returns-clause-closed
returns-clause-closed g c =
    let s = c.args.self.now in
    λ f p q t e h. before-right f p q t c.args.spot s.tags s.args s.names s.apps e h
