-- A refusal by one of the tests 1 to 3 is told by the tests passed and the test failed.
use Rattle.std.proofs.Common.{◌+◌, ◌-◌, length, arith}
use Rattle.termfile.specs.Passes.{Framed}
use Rattle.termfile.proofs.Refusals.{refused-short, refused-limits, refused-length}
use Rattle.termfile.proofs.Refusals.{long-enough, not-long-enough, in-limits, not-in-limits, not-exact-length}
use Rattle.termfile.proofs.Outcome.{framed-answer}
use Rattle.termfile.proofs.parts.Parts.read.Goals as goal

pub returns-then-file-lt4-clause-answer : goal.returns-then-file-lt4-clause-answer
returns-then-file-lt4-clause-answer c = let s = c.args.file.now in refused-short s (not-long-enough s (omega arith))

pub returns-then-free-gt-MAX_FREE-clause-answer : goal.returns-then-free-gt-MAX_FREE-clause-answer
returns-then-free-gt-MAX_FREE-clause-answer c =
    let s = c.args.file.now in
    refused-limits s (long-enough s (omega arith)) (not-in-limits s (λ few least most. grind (arith, c.then-free-gt-MAX_FREE.either)))

pub returns-then-file-file_length-clause-answer : goal.returns-then-file-file_length-clause-answer
returns-then-file-file_length-clause-answer c =
    let s = c.args.file.now in
    refused-length s (long-enough s (omega arith)) (in-limits s (omega arith) (omega arith) (omega arith)) (not-exact-length s (λ e. omega arith))

pub returns-clause-answer : goal.returns-clause-answer
returns-clause-answer c =
    let s = c.args.file.now in
    let n = c.word_at-n.result in
    let framed : Framed s n = record { count = c.word_at-n.ensures.value; long = omega arith; least = omega arith; most = omega arith } in
    framed-answer framed c.word_at-free.ensures.value (omega arith) (4 + n - 4) (length s - (4 + n)) (omega arith) (omega arith)
