-- The answer is told by the tests passed and the test failed.
use Rattle.std.proofs.Common.{ap}
use Rattle.std.proofs.lemmas.Result.{err_from_is_err_and}
use Rattle.prelude.specs.Answer.{accepted}
use Rattle.prelude.specs.Passes.{files_in}
use Rattle.prelude.proofs.Refusals.{cut_refused, cut_answer}
use Rattle.prelude.proofs.Told.{answered-refused, answered-accepted}
use Rattle.prelude.proofs.check.Goals as goal

pub returns-in_default : goal.returns-in_default
returns-in_default c = cut_refused c.args.free c.args.prelude.now c.in_default.ensures

pub returns-in_err-sums : goal.returns-in_err-sums
returns-in_err-sums c =
    let q = err_from_is_err_and c.from_residual.result c.from_residual.ensures.1 in
    let cut = c.in-Some.ensures in
    rw (
      q.1,
      q.2,
      cut_answer c.args.free c.args.prelude.now (files_in c.in-Some.definitions) cut.0 cut.1,
      answered-refused _ _ _ c.in_err-sums.ensures,
    )

pub returns-then-not-all_abstractions : goal.returns-then-not-all_abstractions
returns-then-not-all_abstractions c =
    let cut = c.in-Some.ensures in
    rw (
      cut_answer c.args.free c.args.prelude.now (files_in c.in-Some.definitions) cut.0 cut.1,
      (answered-accepted _ _ _ c.in_ok-sums.ensures).0,
      ← c.all_abstractions.ensures,
      c.if-not-all_abstractions.true,
    )

pub returns-then-not-all_in_place : goal.returns-then-not-all_in_place
returns-then-not-all_in_place c =
    let cut = c.in-Some.ensures in
    rw (
      cut_answer c.args.free c.args.prelude.now (files_in c.in-Some.definitions) cut.0 cut.1,
      (answered-accepted _ _ _ c.in_ok-sums.ensures).0,
      ← c.all_abstractions.ensures,
      c.if-not-all_abstractions.false,
      ← c.all_in_place.ensures,
      c.if-not-all_in_place.true,
    )

pub returns : goal.returns
returns c =
    let cut = c.in-Some.ensures in
    let each = answered-accepted _ _ _ c.in_ok-sums.ensures in
    rw (
      cut_answer c.args.free c.args.prelude.now (files_in c.in-Some.definitions) cut.0 cut.1,
      each.0,
      ← c.all_abstractions.ensures,
      c.if-not-all_abstractions.false,
      ← c.all_in_place.ensures,
      c.if-not-all_in_place.false,
    )
    (ap accepted each.1)
