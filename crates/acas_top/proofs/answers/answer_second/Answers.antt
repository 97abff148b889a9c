use Rattle.std.proofs.Common.{ℕ, ◌+◌, sym, subst, arith}
use Rattle.std.proofs.lemmas.List.{append-nil}
use Rattle.std.proofs.lemmas.Result.{IfOk-weaker}
use Rattle.acas_lines.specs.Split.{lines_of}
use Rattle.acas_top.proofs.Within.{wrong-within}
use Rattle.acas_top.specs.Answers.{verdict_line}
use Rattle.acas_top.specs.Comparing.{IsWrongOfTwo, in_second}
use Rattle.acas_lines.proofs.Splitting.{few-lines}
use Rattle.rec_audit.specs.Judging.{IsRecordingOf, IsWrong}
use Rattle.rec_audit.specs.declared.verdict.Verdict.TheVariants.{Wrong}
use Rattle.acas_top.proofs.answers.answer_second.Goals as goal

pub overflow_add-result : goal.overflow_add-result
overflow_add-result c =
    let wrong : IsWrong (lines_of c.args.other.now) c.in-Wrong.line c.in-Wrong.reason = rw c.in-Wrong.is at c.in_ok-second.ensures in
    omega (arith, c.requires, few-lines c.args.other.now, wrong-within (lines_of c.args.other.now) c.in-Wrong.line c.in-Wrong.reason wrong)

pub returns-in-Legal : goal.returns-in-Legal
returns-in-Legal c =
    let second : IsRecordingOf c.args.other.now c.in-Legal.second = rw c.in-Legal.is at c.in_ok-second.ensures in
    IfOk-weaker c.answer_found.result _ _ (λ answer says bytes one split first lines. says bytes one c.args.other.now split first second) c.answer_found.ensures

pub returns-in-Wrong : goal.returns-in-Wrong
returns-in-Wrong c = λ bytes one split first lines.
    let wrong : IsWrong (lines_of c.args.other.now) c.in-Wrong.line c.in-Wrong.reason = rw c.in-Wrong.is at c.in_ok-second.ensures in
    record {
      one = one;
      other = c.args.other.now;
      split = split;
      line = c.args.lines + c.in-Wrong.line;
      reason = c.in-Wrong.reason;
      is = subst (λ (n : ℕ). IsWrongOfTwo one c.args.other.now (n + c.in-Wrong.line) c.in-Wrong.reason) (sym lines) (in_second first wrong);
      text_is = append-nil (verdict_line (Wrong (c.args.lines + c.in-Wrong.line) c.in-Wrong.reason));
    }
