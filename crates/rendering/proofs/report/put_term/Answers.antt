-- The word, the nodes and the newline.
use Rattle.std.proofs.Common.{ap}
use Rattle.termfile.specs.File.{pairs}
use Rattle.evaluator.specs.Calling.{told_outcome}
use Rattle.rendering.specs.Lines.{term_line}
use Rattle.rendering.proofs.Putting.{put_then, room_next, room_as, put_as}
use Rattle.rendering.proofs.report.put_term.Goals as goal

pub put_byte-requires : goal.put_byte-requires
put_byte-requires c =
    room_next (room_as (ap (λ o. term_line (told_outcome o) (pairs c.args.tags.now c.args.args.now)) c.in-Normal.is) c.requires.room)
    (put_then c.put_bytes.ensures c.put_nodes.ensures)

pub returns-in-Normal : goal.returns-in-Normal
returns-in-Normal c =
    put_as (ap (λ o. term_line (told_outcome o) (pairs c.args.tags.now c.args.args.now)) c.in-Normal.is)
    (put_then (put_then c.put_bytes.ensures c.put_nodes.ensures) c.put_byte.ensures)
