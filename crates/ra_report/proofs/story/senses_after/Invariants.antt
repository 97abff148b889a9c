use Rattle.std.proofs.Common.{◌≡◌, ℕ, ◌<◌, get_or, length}
use Rattle.acas_base.specs.declared.TheConstants.{CRAFTS}
use Rattle.air_rules.specs.Journal.{cell_at}
use Rattle.ra_report.specs.Stories.{no_senses, senses_after}
use Rattle.ra_report.proofs.story.senses_after.Given as goal

-- Those of the advisories so far.
abbrev pub invariant-loop-other : goal.invariant-loop-other
invariant-loop-other l = record {
  size : length l.after ≡ CRAFTS;
  each : (b : ℕ) → b < l.other → get_or l.after b no_senses ≡ senses_after (get_or l.senses b no_senses) (cell_at l.cells b);
}
