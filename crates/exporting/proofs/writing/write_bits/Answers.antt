use Rattle.std.proofs.Common.{[], length, refl, ap, ◌∙◌, arith}
use Rattle.termfile.specs.Output.{overlay}
use Rattle.binary.specs.Bits.{pack}
use Rattle.exporting.proofs.Writers.{puts_none, puts_then, put_first}
use Rattle.exporting.proofs.Nodes.{left-next, left-fits, left-none}
use Rattle.exporting.proofs.writing.write_bits.Goals as goal

pub loop-i-init : goal.loop-i-init
loop-i-init c = ([], puts_none _ _ (omega arith), refl)

pub put_node-writer-requires : goal.put_node-writer-requires
put_node-writer-requires c =
    let inv = c.loop-i.invariant in
    let fits = left-fits c.args.tags.now c.args.indices.now c.requires.same_length inv.0 c.loop-i.i c.loop-i-test.true inv.2 in
    record { few = inv.1.moved.few; fits = omega (arith, c.loop-i.auto.out, inv.1.moved.far, fits, c.requires.room) }

pub loop-i-preserved : goal.loop-i-preserved
loop-i-preserved c =
    let inv = c.loop-i.invariant in
    (_, puts_then _ _ inv.1 c.put_node-writer.ensures, left-next c.args.tags.now c.args.indices.now c.requires.same_length inv.0 c.loop-i.i c.loop-i-test.true inv.2)

pub finish-requires : goal.finish-requires
finish-requires c =
    let inv = c.loop-i.invariant in
    let all = left-none c.args.tags.now c.args.indices.now c.requires.same_length inv.0 c.loop-i.i (omega arith) inv.2 in
    record { few = inv.1.moved.few; fits = omega (arith, c.loop-i.auto.out, inv.1.moved.far, ap length all, c.requires.room) }

pub returns : goal.returns
returns c =
    let inv = c.loop-i.invariant in
    let all = left-none c.args.tags.now c.args.indices.now c.requires.same_length inv.0 c.loop-i.i (omega arith) inv.2 in
    c.finish.ensures inv.0 c.args.out.now (inv.1.put [] c.args.out.now (put_first c.args.out.now)) ∙ ap (λ bs. overlay (pack bs) c.args.out.now) all
