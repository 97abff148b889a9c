use Rattle.std.proofs.Common.{ap}
use Rattle.std.proofs.lemmas.List.{append-nil}
use Rattle.acas_lines.specs.Lines.{joined}
use Rattle.acas_top.specs.Answers.{verdict_line}
use Rattle.rec_audit.specs.declared.verdict.Verdict.TheVariants.{Wrong}
use Rattle.acas_top.proofs.answers.answer_tool.Goals as goal

pub returns-in_ok-told_by-in-Legal : goal.returns-in_ok-told_by-in-Legal
returns-in_ok-told_by-in-Legal c = record {
  state = c.in-Legal.state;
  recording = rw c.in-Legal.is at c.in_ok-state.ensures;
  text_is = ap joined c.in_ok-told_by-in-Legal.ensures;
}

pub returns-in-Wrong : goal.returns-in-Wrong
returns-in-Wrong c = record {
  line = c.in-Wrong.line;
  reason = c.in-Wrong.reason;
  is = rw c.in-Wrong.is at c.in_ok-state.ensures;
  text_is = append-nil (verdict_line (Wrong c.in-Wrong.line c.in-Wrong.reason));
}
