use Rattle.std.proofs.Common.{◌+◌, ◌*◌, ◌/◌, ◌%◌, get_or, set, ap, ◌∙◌}
use Rattle.importing.proofs.Files.{word-stored}
use Rattle.importing.proofs.writing.write_words.Goals as goal

pub loop-i-preserved : goal.loop-i-preserved
loop-i-preserved c =
    let ws = c.args.words.now in
    let i = c.loop-i.i in
    ap (λ o. set (set o (c.args.at + 2 * i) (get_or ws i 0 % 256)) (c.args.at + 2 * i + 1) (get_or ws i 0 / 256)) c.loop-i.invariant
    ∙ word-stored c.args.out.now ws c.args.at i c.loop-i-test.true
