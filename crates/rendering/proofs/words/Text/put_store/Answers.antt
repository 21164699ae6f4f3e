-- The word and the nodes, the cells, the names, and then the newline.
use Rattle.std.proofs.Common.{[], ◌∷◌}
use Rattle.rendering.specs.Decimal.{decimal}
use Rattle.rendering.proofs.Putting.{put_then, room-first, room_next, room_as, put_as}
use Rattle.rendering.proofs.Texts.{store-pieces}
use Rattle.rendering.proofs.words.Text.put_store.Goals as goal

pub put_number-requires : goal.put_number-requires
put_number-requires c =
    let room = room_as (store-pieces c.args.nodes c.args.cells c.args.names) c.requires in
    room_next (room-first (32 ∷ decimal c.args.names) (room-first (10 ∷ []) room)) c.put_named.ensures

pub put_number-requires-2 : goal.put_number-requires-2
put_number-requires-2 c =
    let room = room_as (store-pieces c.args.nodes c.args.cells c.args.names) c.requires in
    room_next (room-first (10 ∷ []) room) (put_then c.put_named.ensures c.put_number.ensures)

pub put_byte-requires : goal.put_byte-requires
put_byte-requires c =
    room_next (room_as (store-pieces c.args.nodes c.args.cells c.args.names) c.requires)
    (put_then (put_then c.put_named.ensures c.put_number.ensures) c.put_number-2.ensures)

pub returns : goal.returns
returns c =
    put_as (store-pieces c.args.nodes c.args.cells c.args.names)
    (put_then (put_then (put_then c.put_named.ensures c.put_number.ensures) c.put_number-2.ensures) c.put_byte.ensures)
