-- The words, spaces and newlines take 52 bytes, and each number its digits.
use Rattle.std.proofs.Common.{arith}
use Rattle.evaluator.specs.Calling.{told_report}
use Rattle.rendering.proofs.Texts.{counts-length}
use Rattle.rendering.proofs.report.counts_bytes.Goals as goal

pub returns-clause-exact : goal.returns-clause-exact
returns-clause-exact c = omega (arith, counts-length (told_report c.args.s.report) c.args.s.shifts c.args.s.sum_is)
