use Rattle.std.proofs.Common.{◌+◌, length, ap, ◌∙◌}
use Rattle.std.proofs.lemmas.List.Edits.{sets}
use Rattle.termfile.specs.Canonical.{words_bytes}
use Rattle.importing.proofs.Files.{file-stored}
use Rattle.importing.proofs.writing.write_file.Goals as goal

pub returns : goal.returns
returns c =
    let n = length c.args.tags.now in
    c.write_nodes.ensures
    ∙ ap (λ l. sets (sets l 4 c.args.tags.now) (4 + n) (words_bytes c.args.args.now)) c.write_words.ensures
    ∙ file-stored c.args.f c.args.out.now c.args.tags.now c.args.args.now c.requires.same_length c.requires.in_bounds
