use Rattle.std.proofs.Common.{take, ap, ◌∙◌, arith}
use Rattle.termfile.specs.Meaning.{term_of}
use Rattle.termfile.specs.Output.{overlay}
use Rattle.binary.specs.Bits.{bits, pack}
use Rattle.binary.proofs.Packing.{length-pack}
use Rattle.binary.proofs.Answers.{converts-short, converts-written}
use Rattle.exporting.specs.Tokens.{tokens}
use Rattle.exporting.proofs.Answers.{bits-exported, tags-part}
use Rattle.exporting.proofs.export_with.Goals as goal

pub returns-then-out-bytes : goal.returns-then-out-bytes
returns-then-out-bytes g c =
    let p = c.requires.measurable in
    let m = c.measure-bits.ensures p.code p.coded in
    let e = bits-exported c.args.file.now p.code c.requires.accepted p.coded.nodes_are in
    let n = length-pack (bits 0 (term_of p.code)) in
    converts-short c.args.out.now e (omega (arith, n, m.count))

pub returns : goal.returns
returns g c =
    let p = c.requires.measurable in
    let m = c.measure-bits.ensures p.code p.coded in
    let e = bits-exported c.args.file.now p.code c.requires.accepted p.coded.nodes_are in
    let n = length-pack (bits 0 (term_of p.code)) in
    let same = ap (λ ts. tokens ts (take c.args.n c.measure-bits.new.scratch.indices)) (tags-part p.coded.framed) ∙ m.bits_are in
    converts-written c.args.out.now e _ _ (omega (arith, n, m.count)) (omega (arith, n, m.count))
    (c.write_bits.ensures ∙ ap (λ bs. overlay (pack bs) c.args.out.now) same)
