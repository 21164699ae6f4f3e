-- The word and the number, and then the newline.
use Rattle.rendering.proofs.Putting.{put_then, room_next, room_as, put_as}
use Rattle.rendering.proofs.Texts.{count-pieces}
use Rattle.rendering.proofs.words.Text.put_count.Goals as goal

pub put_byte-requires : goal.put_byte-requires
put_byte-requires c = room_next (room_as (count-pieces c.args.word.now c.args.n) c.requires) c.put_named.ensures

pub returns : goal.returns
returns c = put_as (count-pieces c.args.word.now c.args.n) (put_then c.put_named.ensures c.put_byte.ensures)
