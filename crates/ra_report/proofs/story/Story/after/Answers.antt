use Rattle.std.proofs.Common.{ℕ, length, sym, ap, ◌∙◌, subst}
use Rattle.ra_report.specs.Blocks.{threats}
use Rattle.ra_report.specs.Stories.{IsAmong, as_threats}
use Rattle.ra_report.proofs.Course.{story-more}
use Rattle.ra_report.proofs.Ranges.{threats-among}
use Rattle.ra_report.proofs.story.Story.after.Goals as goal

pub held_after-held-requires-clause-threat : goal.held_after-held-requires-clause-threat
held_after-held-requires-clause-threat c =
    let count = length c.crafts.result.now in
    subst (λ (n : ℕ). IsAmong n c.of-threats.result) (ap length c.crafts.ensures.value) (subst (IsAmong count) (sym c.of-threats.ensures) (threats-among c.args.cells.now count))

pub returns : goal.returns
returns c = λ commits is.
    story-more c.args.encounter.now commits c.args.cells.now c.args.self.now _ c.of-threats.result c.requires.few c.senses_after-senses.ensures
    (c.of-threats.ensures ∙ ap (λ (n : ℕ). as_threats (threats n c.args.cells.now)) (ap length c.crafts.ensures.value)) c.held_after-held.ensures is
