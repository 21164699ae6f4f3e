-- The word and the first count, the second count, and then the newline.
use Rattle.std.proofs.Common.{[], ◌∷◌}
use Rattle.rendering.proofs.Putting.{put_then, room-first, room_next, room_as, put_as}
use Rattle.rendering.proofs.Texts.{leave-pieces}
use Rattle.rendering.proofs.words.Text.put_leave.Goals as goal

pub put_number-requires : goal.put_number-requires
put_number-requires c = room_next (room-first (10 ∷ []) (room_as (leave-pieces c.args.fun c.args.inert) c.requires)) c.put_named.ensures

pub put_byte-requires : goal.put_byte-requires
put_byte-requires c =
    room_next (room_as (leave-pieces c.args.fun c.args.inert) c.requires) (put_then c.put_named.ensures c.put_number.ensures)

pub returns : goal.returns
returns c =
    put_as (leave-pieces c.args.fun c.args.inert)
    (put_then (put_then c.put_named.ensures c.put_number.ensures) c.put_byte.ensures)
