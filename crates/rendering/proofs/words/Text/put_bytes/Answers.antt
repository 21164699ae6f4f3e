-- The part of the array behind what is written becomes the text.
use Rattle.std.proofs.Common.{arith, refl}
use Rattle.rendering.proofs.Putting.{sets-part}
use Rattle.rendering.proofs.words.Text.put_bytes.Goals as goal

pub returns : goal.returns
returns c =
    let w = c.args.self.now in
    record {
      len_is = refl;
      array_is = rw c.copy_from_slice.ensures.after (sets-part c.args.bytes.now w.out.now w.len _ c.requires.fits (omega arith));
      same_array = refl;
    }
