-- The line is laid over the array.
use Rattle.std.proofs.Common.{arith, rules}
use Rattle.rendering.proofs.Putting.{put_front}
use Rattle.rendering.proofs.Promises.{renders-written}
use Rattle.rendering.proofs.render_number.Goals as goal

pub returns : goal.returns
returns c = λ ts ms.
    renders-written tt c.refused_bytes-bytes.ensures.exact c.if-out-bytes.false
    (rw (← put_front c.new.ensures.empty c.new.ensures.as_it_was (omega arith) c.put_count.ensures) (search rules))
