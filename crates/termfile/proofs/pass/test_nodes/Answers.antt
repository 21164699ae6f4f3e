-- Each turn of the loop is a step of the pass.
use Rattle.std.proofs.Common.{ℕ, length, get_or, refl, sym, ◌∙◌, arith, rules, eq-eqb}
use Rattle.std.proofs.Math.ListN.{length-set}
use borrow.Author.Tests.{ne_eqb}
use Rattle.termfile.specs.Passes.{nodes_in}
use Rattle.termfile.proofs.Pairs.{length-pairs, pairs-next, pairs-end}
use Rattle.termfile.proofs.Turn.{Turn, passing-start, passing-end}
use Rattle.termfile.proofs.Turn.{fails-end, fails-scope, fails-name, fails-left, fails-tag, variable-next, binder-next, application-next}
use Rattle.termfile.proofs.pass.test_nodes.Goals as goal
use Rattle.termfile.proofs.pass.test_nodes.Goals.{After-argument-argument, in-0+else-end-i+else-not-visible, in-1+else-argument-f, in-2+else-end-left}

-- a turn, where its node has been read
turn : (c : After-argument-argument)
    → let ps = c.args.parts in
    let loop = c.loop-i in
    Turn (nodes_in ps) (length ps.tags.now) c.args.parts.free loop.ends loop.top loop.end loop.seen loop.i (get_or ps.tags.now loop.i 0) c.argument-argument.result
turn c =
    let ps = c.args.parts in
    let node = c.argument-argument in
    record {
      long = omega (arith, length-set {A = ℕ});
      passing = c.loop-i.invariant;
      left = omega arith;
      node = pairs-next ps.tags.now ps.arguments.now ps.paired c.loop-i.i (omega arith) (get_or ps.tags.now c.loop-i.i 0) node.result refl node.ensures.value;
    }

pub loop-i-init : goal.loop-i-init
loop-i-init c =
    let ps = c.args.parts in
    rw c.len-end.ensures
    (passing-start (nodes_in ps) (length-pairs ps.tags.now ps.arguments.now ps.paired) ps.some_node c.args.parts.free c.args.ends.now c.requires)

pub returns-then-end-i : goal.returns-then-end-i
returns-then-end-i c = sym (fails-end (turn (goal.at.returns-then-end-i c).After-argument-argument) c.in-0.is (λ e. omega arith))

pub returns-then-not-visible : goal.returns-then-not-visible
returns-then-not-visible c =
    sym
    (fails-scope (turn (goal.at.returns-then-not-visible c).After-argument-argument) c.in-0.is
    (sym c.visible.ensures ∙ c.if-not-visible.true))

pub returns-then-argument-f : goal.returns-then-argument-f
returns-then-argument-f c = sym (fails-name (turn (goal.at.returns-then-argument-f c).After-argument-argument) c.in-1.is (λ e. omega arith))

pub returns-then-end-left : goal.returns-then-end-left
returns-then-end-left c = sym (fails-left (turn (goal.at.returns-then-end-left c).After-argument-argument) c.in-2.is (omega arith))

pub returns-in_default : goal.returns-in_default
returns-in_default c =
    sym (fails-tag (turn (goal.at.returns-in_default c).After-argument-argument) (search rules) (search rules) (search rules))

pub loop-i-preserved : goal.loop-i-preserved
loop-i-preserved c =
    let at = turn (goal.at.loop-i-preserved c).After-argument-argument in
    elim c.match-tag.branch [
      | in-0+else-end-i+else-not-visible w ↦
          rw (w.ends-is, w.top-is, w.end-is, w.seen-is)
          (variable-next at w.in-0.is (omega arith) (sym w.visible.ensures ∙ w.if-not-visible.false))
      | in-1+else-argument-f w ↦ rw (w.ends-is, w.top-is, w.end-is, w.seen-is) (binder-next at w.in-1.is (omega arith))
      | in-2+else-end-left w ↦ rw (w.ends-is, w.top-is, w.end-is, w.seen-is) (application-next at w.in-2.is (omega arith))
    ]

pub returns-then-end-ne0 : goal.returns-then-end-ne0
returns-then-end-ne0 c =
    let ps = c.args.parts in
    sym
    (passing-end (omega (arith, length-set {A = ℕ})) c.loop-i.invariant (pairs-end ps.tags.now ps.arguments.now ps.paired c.loop-i.i (omega arith))
    ∙ rw (ne_eqb c.loop-i.end 0 c.if-end-ne0.true))

pub returns : goal.returns
returns c =
    let ps = c.args.parts in
    sym
    (passing-end (omega (arith, length-set {A = ℕ})) c.loop-i.invariant (pairs-end ps.tags.now ps.arguments.now ps.paired c.loop-i.i (omega arith))
    ∙ rw (eq-eqb c.loop-i.end 0 c.if-end-ne0.false))
