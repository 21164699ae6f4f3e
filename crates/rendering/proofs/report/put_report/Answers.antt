-- The first line, the lines of the counts and the term line.
use Rattle.termfile.specs.File.{pairs}
use Rattle.evaluator.specs.Calling.{told_outcome}
use Rattle.rendering.specs.Lines.{term_line}
use Rattle.rendering.proofs.Putting.{put_then, room-first, room_next}
use Rattle.rendering.proofs.report.put_report.Goals as goal

pub put_counts-requires : goal.put_counts-requires
put_counts-requires c =
    room_next (room-first (term_line (told_outcome c.args.s.report.outcome) (pairs c.args.tags.now c.args.args.now)) c.requires.room)
    c.put_outcome.ensures

pub put_term-requires-clause-room : goal.put_term-requires-clause-room
put_term-requires-clause-room c = room_next c.requires.room (put_then c.put_outcome.ensures c.put_counts.ensures)

pub returns : goal.returns
returns c = put_then (put_then c.put_outcome.ensures c.put_counts.ensures) c.put_term.ensures
