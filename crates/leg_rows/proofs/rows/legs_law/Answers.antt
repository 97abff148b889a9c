use Rattle.leg_rows.proofs.Through.{needed, only, through}
use Rattle.leg_rows.proofs.rows.legs_law.Goals as goal

pub returns-clause-through : goal.returns-clause-through
returns-clause-through c = through

pub returns-clause-needed : goal.returns-clause-needed
returns-clause-needed c = needed

pub returns-clause-only : goal.returns-clause-only
returns-clause-only c = only
