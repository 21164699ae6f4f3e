use Rattle.std.proofs.Common.{◌≡◌, suc, true, ◌∷◌, ap, ◌∙◌, arith, rules}
use Rattle.importing.specs.Ahead.{ahead}
use Rattle.importing.proofs.Ahead.{behind-then, ones-more}
use Rattle.importing.proofs.node.pass_ones.Goals as goal

pub loop-one-preserved : goal.loop-one-preserved
loop-one-preserved c =
    let w = c.loop-one.invariant in
    let step = c.in_ok-one.ensures in
    let one : c.in_ok-one.one ≡ true = search rules in
    (suc w.0, ones-more w.0 w.1 (step.exact ∙ ap (λ b. b ∷ ahead c.args.bits.now c.in_ok-one.next) one), behind-then _ (omega arith) w.2 step.further)
