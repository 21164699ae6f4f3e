use Rattle.exporting.proofs.Answers.{stands}
use Rattle.exporting.proofs.export.Goals as goal

pub export_with-requires-clause-measurable : goal.export_with-requires-clause-measurable
export_with-requires-clause-measurable c = stands c.args.file.now c.in_ok-counts.counts c.in_ok-counts.ensures

pub export_with-requires-then-n-le-MIDDLE-clause-measurable :
    goal.export_with-requires-then-n-le-MIDDLE-clause-measurable
export_with-requires-then-n-le-MIDDLE-clause-measurable c = stands c.args.file.now c.in_ok-counts.counts c.in_ok-counts.ensures

pub export_with-requires-2-clause-measurable : goal.export_with-requires-2-clause-measurable
export_with-requires-2-clause-measurable c = stands c.args.file.now c.in_ok-counts.counts c.in_ok-counts.ensures

pub export_with-requires-2-clause-room : goal.export_with-requires-2-clause-room
export_with-requires-2-clause-room c = (stands c.args.file.now c.in_ok-counts.counts c.in_ok-counts.ensures).coded.framed.most
