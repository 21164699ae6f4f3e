-- The word and the count, `of` and the allowance, and then the newline.
use Rattle.std.proofs.Common.{[], ◌∷◌}
use Rattle.rendering.proofs.Putting.{put_then, room-first, room_next, room_as, put_as}
use Rattle.rendering.proofs.Texts.{allowed-pieces}
use Rattle.rendering.proofs.words.Text.put_allowed.Goals as goal

pub put_named-requires-2 : goal.put_named-requires-2
put_named-requires-2 c =
    room_next (room-first (10 ∷ []) (room_as (allowed-pieces c.args.word.now c.args.n c.args.allowance) c.requires)) c.put_named.ensures

pub put_byte-requires : goal.put_byte-requires
put_byte-requires c =
    room_next (room_as (allowed-pieces c.args.word.now c.args.n c.args.allowance) c.requires)
    (put_then c.put_named.ensures c.put_named-2.ensures)

pub returns : goal.returns
returns c =
    put_as (allowed-pieces c.args.word.now c.args.n c.args.allowance)
    (put_then (put_then c.put_named.ensures c.put_named-2.ensures) c.put_byte.ensures)
