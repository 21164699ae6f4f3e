-- The report that is told is the one given, with the nodes that it has; the text is laid over the array.
use Rattle.std.proofs.Common.{◌≡◌, ℕ, length, take, sym, ◌∙◌, ◌≤◌, subst, subst₂, arith, rules}
use lib.Seq.{length-take-le}
use Rattle.termfile.specs.Output.{overlay}
use Rattle.machine.specs.Answer.{report}
use Rattle.evaluator.specs.Calling.{told_report}
use Rattle.evaluator.specs.declared.Report.{Report}
use Rattle.rendering.specs.Lines.{lines}
use Rattle.rendering.specs.Promise.{nodes_at}
use Rattle.rendering.proofs.Putting.{put_front}
use Rattle.rendering.proofs.Promises.{renders-written, bytes_of}
use Rattle.rendering.proofs.render_report.Goals as goal

pub returns : goal.returns
returns c =
    let tags = c.args.tags.now in
    let args = c.args.args.now in
    let n = c.nodes_written-n.result in
    let n-is = c.nodes_written-n.ensures in
    let sum = rw c.in_ok-summed.ensures.ok_part at c.of.ensures in
    let within : n ≤ length tags = omega (arith, c.min.ensures, c.min-2.ensures, c.if-n-min.false) in
    let within-args : n ≤ length args = omega (arith, c.min.ensures, c.min-2.ensures, c.if-n-min.false) in
    let tags-length = length-take-le n tags within in
    let args-length = length-take-le n args within-args in
    let bytes =
    subst (λ (q : Report). c.report_bytes-bytes.result ≡ length (lines (report (told_report q)) (nodes_at n tags args))) sum.0
    (c.report_bytes-bytes.ensures.exact (take n tags) (tags-length ∙ sym args-length)) in
    let counted = bytes_of (told_report c.args.r) tags args n-is bytes in
    let laid =
    subst₂ (λ (q : Report) (k : ℕ). c.put_report.new.text.out.now ≡ overlay (lines (report (told_report q)) (nodes_at k tags args)) c.args.out.now) sum.0 n-is
    (put_front c.new.ensures.empty c.new.ensures.as_it_was (omega arith) c.put_report.ensures) in
    renders-written
    (record {
      within_limit = omega (arith, n-is, c.min.ensures, c.min-2.ensures, c.if-n-min.false);
      within_tags = omega (arith, n-is, within);
      within_arguments = omega (arith, n-is, within-args);
      sum_fits = sum.1;
    })
    counted c.if-out-bytes.false
    (rw (← laid) (search rules))
