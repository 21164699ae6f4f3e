-- An application that joins nothing, and one that joins.
use Rattle.termfile.proofs.Sizes.{join-no-right, join-application}
use Rattle.termfile.proofs.shape.join.Goals as goal

pub returns-in_err-right-in-2 : goal.returns-in_err-right-in-2
returns-in_err-right-in-2 c cs e =
    rw c.from_residual-in_err-right-in-2.ensures
    (join-no-right c.args.tag c.args.argument c.args.behind.now cs e c.in-2.is c.in_err-right-in-2.ensures.lookup.3)

pub returns-else-behind-argument : goal.returns-else-behind-argument
returns-else-behind-argument c cs e =
    let right = c.in_ok-right-in-2.ensures.lookup.3 in
    rw (right.1 0) (join-application c.args.tag c.args.argument c.args.behind.now cs e c.in-2.is right.0 c.if-behind-argument.false)
