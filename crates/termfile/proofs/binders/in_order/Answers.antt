-- An abstraction binds `name`, and any other node binds nothing.
use Rattle.std.proofs.Common.{get_or, refl, sym, ◌∙◌, arith}
use Rattle.termfile.specs.File.{words}
use Rattle.termfile.specs.Passes.{nodes_in}
use Rattle.termfile.proofs.Pairs.{pairs-next, pairs-end}
use Rattle.termfile.proofs.Order.{ordered-code, order-binder, order-broken, order_other}
use Rattle.termfile.proofs.binders.in_order.Goals as goal
use Rattle.termfile.proofs.binders.in_order.Goals.{then-tag-eq1+else-argument-name, else-tag-eq1}

pub returns-then-argument-name : goal.returns-then-argument-name
returns-then-argument-name c =
    let ps = c.args.parts in
    let i = c.loop-i.i in
    let node = pairs-next ps.tags.now ps.arguments.now ps.paired i (omega arith) (get_or ps.tags.now i 0) c.argument.result refl c.argument.ensures.value in
    sym
    (sym (ordered-code (nodes_in ps) c.args.parts.free c.requires) ∙ c.loop-i.invariant.same
    ∙ order-broken _ _ c.loop-i.name node c.if-tag-eq1.true c.if-argument-name.true)

pub loop-i-preserved : goal.loop-i-preserved
loop-i-preserved c =
    let ps = c.args.parts in
    let i = c.loop-i.i in
    elim c.if-tag-eq1.branch [
      | then-tag-eq1+else-argument-name w ↦ record {
        few = omega arith;
        same =
            let node = pairs-next ps.tags.now ps.arguments.now ps.paired i (omega arith) (get_or ps.tags.now i 0) w.argument.result refl w.argument.ensures.value in
            rw w.name-is (c.loop-i.invariant.same ∙ order-binder _ _ c.loop-i.name node w.if-tag-eq1.true w.if-argument-name.false);
      }
      | else-tag-eq1 w ↦ record {
        few = omega arith;
        same =
            let node = pairs-next ps.tags.now ps.arguments.now ps.paired i (omega arith) (get_or ps.tags.now i 0) (get_or (words ps.arguments.now) i 0) refl refl in
            rw w.name-is (c.loop-i.invariant.same ∙ order_other _ _ c.loop-i.name node w.if-tag-eq1.false);
      }
    ]

pub returns : goal.returns
returns c =
    let ps = c.args.parts in
    sym
    (sym (ordered-code (nodes_in ps) c.args.parts.free c.requires)
    ∙ rw (c.loop-i.invariant.same, pairs-end ps.tags.now ps.arguments.now ps.paired c.loop-i.i (omega arith)))
