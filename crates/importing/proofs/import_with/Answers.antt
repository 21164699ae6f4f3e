use Rattle.std.proofs.Common.{sym, ap, ◌∙◌, arith}
use Rattle.termfile.specs.Output.{overlay}
use Rattle.binary.proofs.Answers.{converts-short, converts-written}
use Rattle.importing.proofs.Answers.{file-read, file-length, file-bytes}
use Rattle.importing.proofs.import_with.Goals as goal

pub returns-then-out-bytes : goal.returns-then-out-bytes
returns-then-out-bytes g c =
    let w = c.in_ok-n.ensures in
    let e = file-read w c.requires.few_free (sym c.is_padding.ensures ∙ c.if-not-is_padding.false) in
    converts-short c.args.out.now e (omega (arith, file-length w))

pub returns : goal.returns
returns g c =
    let w = c.in_ok-n.ensures in
    let e = file-read w c.requires.few_free (sym c.is_padding.ensures ∙ c.if-not-is_padding.false) in
    converts-written c.args.out.now e _ _ (omega (arith, file-length w)) (file-length w)
    (c.write_file.ensures ∙ ap (λ s. overlay s c.args.out.now) (file-bytes w))
