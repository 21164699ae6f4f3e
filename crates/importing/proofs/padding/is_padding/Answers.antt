use Rattle.importing.proofs.Endings.{spare-byte, last_byte}
use Rattle.importing.proofs.padding.is_padding.Goals as goal

pub returns-then-start-bits : goal.returns-then-start-bits
returns-then-start-bits c = spare-byte c.args.bits.now c.args.start c.if-start-bits.true

pub loop-one-init : goal.loop-one-init
loop-one-init c = last_byte c.args.bits.now c.args.start c.if-start-bits.false
