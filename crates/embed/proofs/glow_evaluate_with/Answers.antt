-- What `evaluate_with` promises, with its answer put into numbers.
use Rattle.std.proofs.Common.{sym, ap, ◌∙◌, arith}
use Rattle.termfile.specs.Output.{overlay}
use Rattle.embed.specs.Embedding.{status_of, numbers_of}
use Rattle.embed.proofs.Embeds.{embeds-unknown, embeds-short, embeds-called}
use Rattle.embed.proofs.glow_evaluate_with.Goals as goal

pub returns-in_default : goal.returns-in_default
returns-in_default c = embeds-unknown (sym c.try_from.ensures ∙ c.in_default.is)

pub returns-then-report-lt-NUMBERS : goal.returns-then-report-lt-NUMBERS
returns-then-report-lt-NUMBERS c = embeds-short (sym c.try_from.ensures ∙ c.in-Ok.is) (omega arith)

pub returns : goal.returns
returns c =
    let w = c.evaluate_with-answer.ensures.called in
    embeds-called (sym c.try_from.ensures ∙ c.in-Ok.is) (omega arith) c.evaluate_with-answer.result w
    (c.tell.ensures.status ∙ ap status_of w.answer_is)
    (c.tell.ensures.numbers ∙ ap (λ v. overlay (numbers_of v) c.args.report.now) w.answer_is)
