-- The part of the array behind what is written becomes the text.
use Rattle.std.proofs.Common.{arith, refl}
use Rattle.rendering.specs.Decimal.{decimal}
use Rattle.rendering.proofs.Putting.{sets-part}
use Rattle.rendering.proofs.words.Text.put_decimal.Goals as goal

pub returns : goal.returns
returns c =
    let w = c.args.self.now in
    record {
      len_is = omega arith;
      array_is = rw c.fill_decimal.ensures (sets-part (decimal c.args.n) w.out.now w.len _ c.requires.fits (omega arith));
      same_array = refl;
    }
