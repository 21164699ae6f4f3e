-- Where the pass finds something the file is refused, and else its counts follow from the number of its abstractions.
use Rattle.std.proofs.Common.{ap, sym, ◌∙◌}
use Rattle.termfile.specs.File.{words}
use Rattle.termfile.specs.Answer.{accepted}
use Rattle.termfile.specs.Passes.{nodes_in}
use Rattle.termfile.proofs.Bytes.{length-words, tags-pairs}
use Rattle.termfile.proofs.Outcome.{passed_none, passed-few, passed-counts}
use Rattle.termfile.proofs.check_parts.Goals as goal

pub counted-requires : goal.counted-requires
counted-requires g c =
    let ps = c.args.parts in
    let tags = tags-pairs ps.tags.now (words ps.arguments.now) (sym (length-words ps.arguments.now _ ps.paired)) in
    passed-few ps.free ps.tags.now (nodes_in ps) tags c.in-Some.seen (sym c.in-Some.is ∙ c.test_nodes.ensures)

pub returns : goal.returns
returns g c =
    let ps = c.args.parts in
    let tags = tags-pairs ps.tags.now (words ps.arguments.now) (sym (length-words ps.arguments.now _ ps.paired)) in
    let passed = sym c.in-Some.is ∙ c.test_nodes.ensures in
    rw (passed_none ps.free ps.tags.now (nodes_in ps) tags c.in-Some.seen passed, c.counted.ensures)
    (ap accepted (passed-counts ps.free ps.tags.now (nodes_in ps) tags c.in-Some.seen passed))
