use Rattle.std.proofs.Common.{sym, ◌∙◌}
use Rattle.termfile.proofs.Frame.{exact, argument-at}
use Rattle.exporting.proofs.measuring.argument_at.Goals as goal

pub returns : goal.returns
returns c =
    let p = c.requires in
    c.word.ensures ∙ sym (argument-at c.args.file.now p.framed.count (exact p.framed) c.args.i p.i_lt_n)
