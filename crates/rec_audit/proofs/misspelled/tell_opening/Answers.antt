use Rattle.std.proofs.Common.{◌≡◌, ◌∙◌, ◌-◌, List, ℕ, ap, arith, drop, refl, slice_get, subst, sym}
use Rattle.acas_lines.specs.Split.{lines_of}
use Rattle.rec_audit.proofs.Spellings.{AfterHead, behind-is, behind-wrong, headed, later-count, opening-after, second-canonical}
use Rattle.rec_audit.specs.Explaining.{IsPart, IsToldBy, TellsCount, TellsFirstReturn, TellsPart, TellsReturn, fault_of, first_return, of_count, of_end, of_part}
use Rattle.rec_audit.specs.Opening.{HasNoEnd, IsCut}
use Rattle.rec_audit.specs.declared.verdict.Reason.TheVariants.{Spelling}
use Rattle.verdict_text.specs.Sentences.{sentence}
use Rattle.verdict_text.specs.declared.fault.Why.TheVariants as why
use Rattle.rec_audit.proofs.misspelled.tell_opening.Goals as goal

pub behind_head-lines-requires-clause-headed : goal.behind_head-lines-requires-clause-headed
behind_head-lines-requires-clause-headed c =
    let bytes = c.args.bytes.now in headed (lines_of bytes) c.args.line Spelling (opening-after (lines_of bytes) c.args.line Spelling c.requires.later c.requires.wrong)

pub returns-in-None : goal.returns-in-None
returns-in-None c =
    let left = c.behind_head-lines.ensures.left in
    of_end (subst HasNoEnd left c.in-None.ensures) (subst (λ (t : List (List ℕ)). TellsFirstReturn (first_return 2 t) (λ told. told ≡ sentence (fault_of c.args.line why.NoEnd)) c.tell_no_end.result) left c.tell_no_end.ensures)

pub tell_part-requires-clause-headed : goal.tell_part-requires-clause-headed
tell_part-requires-clause-headed c =
    let bytes = c.args.bytes.now in behind-is (lines_of bytes) c.behind_head-lines.result.left c.args.line Spelling (opening-after (lines_of bytes) c.args.line Spelling c.requires.later c.requires.wrong) c.behind_head-lines.ensures.left

pub tell_part-requires-clause-wrong : goal.tell_part-requires-clause-wrong
tell_part-requires-clause-wrong c =
    let bytes = c.args.bytes.now in
    let after = opening-after (lines_of bytes) c.args.line Spelling c.requires.later c.requires.wrong in
    second-canonical c.behind_head-lines.result.left c.args.line Spelling refl c.if-line-eq2.true (behind-wrong (lines_of bytes) c.behind_head-lines.result.left c.args.line Spelling after c.behind_head-lines.ensures.left)

pub returns-else-line-eq2 : goal.returns-else-line-eq2
returns-else-line-eq2 c =
    let bytes = c.args.bytes.now in
    let left = c.behind_head-lines.ensures.left in
    let after = opening-after (lines_of bytes) c.args.line Spelling c.requires.later c.requires.wrong in
    let lack = later-count c.behind_head-lines.result.left c.args.line Spelling c.in-Some.text.now refl c.if-line-eq2.false c.in-Some.ensures (behind-wrong (lines_of bytes) c.behind_head-lines.result.left c.args.line Spelling after left) in
    of_count lack.part lack.rest (subst (λ (t : List (List ℕ)). IsCut t lack.part lack.rest) left lack.cut) lack.none
    (subst (λ (t : List (List ℕ)). IsToldBy c.args.line (TellsReturn (slice_get t 0) (TellsCount (slice_get t 0))) c.tell_count.result) c.lines_from.ensures c.tell_count.ensures)
