-- A term line is as long as its word, its nodes and the newline.
use Rattle.std.proofs.Common.{arith}
use Rattle.rendering.proofs.TermLine.{term-length}
use Rattle.rendering.proofs.report.term_bytes.Goals as goal

pub returns-in-Normal-clause-exact : goal.returns-in-Normal-clause-exact
returns-in-Normal-clause-exact c = λ tags e. rw c.in-Normal.is (omega (arith, term-length tags c.args.args.now e))
