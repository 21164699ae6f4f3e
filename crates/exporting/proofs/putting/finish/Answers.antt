use Rattle.std.proofs.Common.{arith}
use Rattle.exporting.proofs.Writers.{finished-even, finished}
use Rattle.exporting.proofs.putting.finish.Goals as goal

pub returns-then-count-gt0 : goal.returns-then-count-gt0
returns-then-count-gt0 c = λ bs l₀ w. finished c.args.writer c.args.out.now bs l₀ w c.if-count-gt0.true (omega (arith, c.requires.fits))

pub returns-else-count-gt0 : goal.returns-else-count-gt0
returns-else-count-gt0 c = λ bs l₀ w. finished-even c.args.writer c.args.out.now bs l₀ w c.if-count-gt0.false
