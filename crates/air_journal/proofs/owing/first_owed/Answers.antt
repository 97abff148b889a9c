use Rattle.std.proofs.Common.{below_more, sym, ◌∙◌}
use Rattle.air_journal.proofs.owing.first_owed.Goals as goal

pub loop-target-preserved : goal.loop-target-preserved
loop-target-preserved c = below_more _ _ c.loop-target.invariant (sym c.owed_to.ensures ∙ c.in_default.is)
