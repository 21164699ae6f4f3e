-- Six lines, one after the other.
use Rattle.std.proofs.Common.{List, ℕ, ◌++◌}
use Rattle.evaluator.specs.Calling.{told_report}
use Rattle.rendering.specs.Lines.{ascii, count_line, allowed_line, leave_line, store_line}
use Rattle.rendering.specs.Putting.{Room}
use Rattle.rendering.specs.declared.report.Summed.{Summed}
use Rattle.rendering.proofs.Putting.{put_then, room-first, room_next, room_as, put_as}
use Rattle.rendering.proofs.Texts.{counts-pieces}
use Rattle.rendering.proofs.report.put_counts.Goals as goal
use Rattle.rendering.proofs.report.put_counts.Goals.{Start}

-- the lines
abbrev beta : Summed → List ℕ
beta s = count_line (ascii "beta") s.report.beta

abbrev subst : Summed → List ℕ
subst s = allowed_line (ascii "subst") s.report.subst s.report.subst_allowance

abbrev enter : Summed → List ℕ
enter s = count_line (ascii "enter") s.report.enter

abbrev leave : Summed → List ℕ
leave s = leave_line s.report.leave_fun s.report.leave_inert

abbrev shift : Summed → List ℕ
shift s = allowed_line (ascii "shift") s.shifts s.report.shift_allowance

abbrev store : Summed → List ℕ
store s = store_line s.report.nodes s.report.cells s.report.names

room : (c : Start) → let s = c.args.s in Room (beta s ++ subst s ++ enter s ++ leave s ++ shift s ++ store s) c.args.text.now
room c = room_as (counts-pieces (told_report c.args.s.report) c.args.s.shifts c.args.s.sum_is) c.requires

pub put_count-requires : goal.put_count-requires
put_count-requires c =
    let s = c.args.s in
    room-first (subst s) (room-first (enter s) (room-first (leave s) (room-first (shift s) (room-first (store s) (room (goal.at.put_count-requires c).Start)))))

pub put_allowed-requires : goal.put_allowed-requires
put_allowed-requires c =
    let s = c.args.s in
    room_next (room-first (enter s) (room-first (leave s) (room-first (shift s) (room-first (store s) (room (goal.at.put_allowed-requires c).Start)))))
    c.put_count.ensures

pub put_count-requires-2 : goal.put_count-requires-2
put_count-requires-2 c =
    let s = c.args.s in
    room_next (room-first (leave s) (room-first (shift s) (room-first (store s) (room (goal.at.put_count-requires-2 c).Start))))
    (put_then c.put_count.ensures c.put_allowed.ensures)

pub put_leave-requires : goal.put_leave-requires
put_leave-requires c =
    let s = c.args.s in
    room_next (room-first (shift s) (room-first (store s) (room (goal.at.put_leave-requires c).Start)))
    (put_then (put_then c.put_count.ensures c.put_allowed.ensures) c.put_count-2.ensures)

pub put_allowed-requires-2 : goal.put_allowed-requires-2
put_allowed-requires-2 c =
    let s = c.args.s in
    room_next (room-first (store s) (room (goal.at.put_allowed-requires-2 c).Start))
    (put_then (put_then (put_then c.put_count.ensures c.put_allowed.ensures) c.put_count-2.ensures) c.put_leave.ensures)

pub put_store-requires : goal.put_store-requires
put_store-requires c =
    room_next (room (goal.at.put_store-requires c).Start)
    (put_then (put_then (put_then (put_then c.put_count.ensures c.put_allowed.ensures) c.put_count-2.ensures) c.put_leave.ensures) c.put_allowed-2.ensures)

pub returns : goal.returns
returns c =
    put_as (counts-pieces (told_report c.args.s.report) c.args.s.shifts c.args.s.sum_is)
    (put_then (put_then (put_then (put_then (put_then c.put_count.ensures c.put_allowed.ensures) c.put_count-2.ensures) c.put_leave.ensures) c.put_allowed-2.ensures) c.put_store.ensures)
