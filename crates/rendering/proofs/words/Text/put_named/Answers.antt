-- The word, and then the number.
use Rattle.rendering.proofs.Putting.{put_then, room_next}
use Rattle.rendering.proofs.words.Text.put_named.Goals as goal

pub put_number-requires : goal.put_number-requires
put_number-requires c = room_next c.requires c.put_bytes.ensures

pub returns : goal.returns
returns c = put_then c.put_bytes.ensures c.put_number.ensures
