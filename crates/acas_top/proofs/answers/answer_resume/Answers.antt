use Rattle.std.proofs.Common.{ap}
use Rattle.std.proofs.lemmas.List.{append-nil}
use Rattle.acas_base.specs.Encounter.{Parts}
use Rattle.acas_top.specs.Answers.{verdict_line}
use Rattle.rec_audit.specs.declared.verdict.Verdict.TheVariants.{Wrong}
use Rattle.rec_text.specs.Recording.{recording}
use Rattle.acas_top.proofs.answers.answer_resume.Goals as goal

pub returns-in_ok-filled-in-Legal : goal.returns-in_ok-filled-in-Legal
returns-in_ok-filled-in-Legal c =
    let journal = c.in_ok-filled-in-Legal.field-0.journal in
    let ends = c.in_ok-filled-in-Legal.ensures in
    record {
      begun = c.in-Legal.begun;
      beginning = rw c.in-Legal.is at c.in_ok-begun.ensures;
      journal = journal;
      filled = ends.filled;
      run = ends.run;
      serial = ends.serial;
      text_is = ap (λ (e : Parts). recording e journal) ends.encounter;
    }

pub returns-in-Wrong : goal.returns-in-Wrong
returns-in-Wrong c = record {
  line = c.in-Wrong.line;
  reason = c.in-Wrong.reason;
  is = rw c.in-Wrong.is at c.in_ok-begun.ensures;
  text_is = append-nil (verdict_line (Wrong c.in-Wrong.line c.in-Wrong.reason));
}
