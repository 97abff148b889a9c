use Rattle.std.proofs.Common.{List, ℕ, refl, subst}
use Rattle.acas_lines.specs.Split.{lines_of}
use Rattle.rec_audit.proofs.Spellings.{behind-is, behind-wrong, headed, refusal-after, refusal-canonical, refusal-end}
use Rattle.rec_audit.specs.declared.verdict.Reason.TheVariants.{Encounter}
use Rattle.rec_audit.proofs.explaining.tell_encounter.Goals as goal

pub behind_head-lines-requires-clause-headed : goal.behind_head-lines-requires-clause-headed
behind_head-lines-requires-clause-headed c =
    let bytes = c.args.bytes.now in let r = Encounter c.args.code in headed (lines_of bytes) c.args.line r (refusal-after (lines_of bytes) c.args.line r refl c.requires.wrong)

pub tell_part-requires-clause-headed : goal.tell_part-requires-clause-headed
tell_part-requires-clause-headed c =
    let bytes = c.args.bytes.now in
    let r = Encounter c.args.code in behind-is (lines_of bytes) c.behind_head-lines.result.left c.args.line r (refusal-after (lines_of bytes) c.args.line r refl c.requires.wrong) c.behind_head-lines.ensures.left

pub tell_part-requires-clause-wrong : goal.tell_part-requires-clause-wrong
tell_part-requires-clause-wrong c =
    let bytes = c.args.bytes.now in
    let r = Encounter c.args.code in
    let after = refusal-after (lines_of bytes) c.args.line r refl c.requires.wrong in
    refusal-canonical c.behind_head-lines.result.left c.args.line r refl (behind-wrong (lines_of bytes) c.behind_head-lines.result.left c.args.line r after c.behind_head-lines.ensures.left)

pub unreachable-requires : goal.unreachable-requires
unreachable-requires c =
    let bytes = c.args.bytes.now in
    let r = Encounter c.args.code in
    let after = refusal-after (lines_of bytes) c.args.line r refl c.requires.wrong in
    refusal-end c.behind_head-lines.result.left c.args.line r refl (behind-wrong (lines_of bytes) c.behind_head-lines.result.left c.args.line r after c.behind_head-lines.ensures.left) c.in-None.ensures

pub returns : goal.returns
returns c = rw (c.behind_head-lines.ensures.left) at c.tell_part.ensures
