use Rattle.std.proofs.Common.{List, ℕ, arith, refl, slice_get, subst}
use Rattle.acas_lines.specs.Split.{lines_of}
use Rattle.rec_audit.proofs.Spellings.{opening-moved}
use Rattle.rec_audit.proofs.Texts.{some-line}
use Rattle.rec_audit.specs.Explaining.{IsToldBy, TellsOther, TellsReturn, of_head}
use Rattle.rec_audit.specs.Judging.{at_opening}
use Rattle.rec_audit.specs.declared.verdict.Reason.TheVariants.{Spelling}
use Rattle.rec_audit.specs.declared.verdict.Verdict.TheVariants as verdict
use Rattle.rec_text.specs.Recording.{head_line}
use Rattle.rec_audit.proofs.misspelled.tell_misspelled.Goals as goal

pub returns-then-line-eq1 : goal.returns-then-line-eq1
returns-then-line-eq1 c =
    of_head c.if-line-eq1.true (subst (λ (t : List (List ℕ)). IsToldBy c.args.line (TellsReturn (slice_get t 0) (TellsOther (slice_get t 0) head_line)) c.tell_head.result) c.lines_from.ensures c.tell_head.ensures)

pub tell_entry-requires-clause-opened : goal.tell_entry-requires-clause-opened
tell_entry-requires-clause-opened c = rw (c.in-Ok.is) at c.in_ok-opened.ensures

pub tell_opening-requires-clause-wrong : goal.tell_opening-requires-clause-wrong
tell_opening-requires-clause-wrong c =
    let bytes = c.args.bytes.now in
    let fault = c.in-Err.field-0 in
    let w = rw (c.in-Err.is) at c.in_ok-opened.ensures in
    opening-moved (lines_of bytes) c.args.line fault.line Spelling fault.reason (c.verdict_law.ensures.verdict bytes (verdict.Wrong c.args.line Spelling) (verdict.Wrong fault.line fault.reason) c.requires.wrong (at_opening w)) w

pub tell_opening-requires-clause-later : goal.tell_opening-requires-clause-later
tell_opening-requires-clause-later c = let some = some-line (lines_of c.args.bytes.now) c.args.line Spelling c.requires.wrong in omega (arith, some, c.if-line-eq1.false)
