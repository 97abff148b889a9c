use Rattle.std.proofs.Common.{◌∙◌, length, length-append, ap, arith}
use Rattle.std.proofs.lemmas.List.{append-nil}
use Rattle.std.proofs.lemmas.Result.{IfOk-weaker}
use Rattle.acas_top.specs.Answers.{verdict_line}
use Rattle.acas_top.specs.Comparing.{in_first}
use Rattle.acas_lines.proofs.Splitting.{few-lines}
use Rattle.rec_audit.specs.Judging.{IsRecordingOf}
use Rattle.rec_audit.specs.declared.verdict.Verdict.TheVariants.{Wrong}
use Rattle.acas_top.proofs.answers.answer_compare.Goals as goal

pub answer_second-requires : goal.answer_second-requires
answer_second-requires c =
    let two = c.split-two.result in
    let all = ap length c.split-two.ensures.parts.bytes_are ∙ length-append two.one.now two.other.now in
    omega (arith, c.requires, all, c.split-two.ensures.lines, few-lines two.one.now)

pub returns-in-Legal : goal.returns-in-Legal
returns-in-Legal c =
    let two = c.split-two.result in
    let first : IsRecordingOf two.one.now c.in-Legal.first = rw c.in-Legal.is at c.in_ok-first.ensures in
    IfOk-weaker c.answer_second.result _ _ (λ answer says. says c.args.bytes.now two.one.now c.split-two.ensures.parts first c.split-two.ensures.lines) c.answer_second.ensures

pub returns-in-Wrong : goal.returns-in-Wrong
returns-in-Wrong c = record {
  one = c.split-two.result.one.now;
  other = c.split-two.result.other.now;
  split = c.split-two.ensures.parts;
  line = c.in-Wrong.line;
  reason = c.in-Wrong.reason;
  is = in_first (rw c.in-Wrong.is at c.in_ok-first.ensures);
  text_is = append-nil (verdict_line (Wrong c.in-Wrong.line c.in-Wrong.reason));
}
