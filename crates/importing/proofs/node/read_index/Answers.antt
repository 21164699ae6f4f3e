use Rattle.std.proofs.Common.{arith}
use Rattle.importing.proofs.Indices.{index-cut, index-near, index-far}
use Rattle.importing.proofs.node.read_index.Goals as goal

pub returns-in_err-next : goal.returns-in_err-next
returns-in_err-next c = rw c.from_residual.ensures (index-cut c.in_err-next.ensures)

pub returns-then-bytes-gt8192 : goal.returns-then-bytes-gt8192
returns-then-bytes-gt8192 c =
    let w = c.in_ok-next.ensures in
    index-far _ _ _ w _ (omega (arith, w.2.far, c.in_ok-next.next.begun)) (omega arith)

pub returns : goal.returns
returns c =
    let w = c.in_ok-next.ensures in
    index-near _ _ _ w _ (omega (arith, w.2.far, w.2.forth))
