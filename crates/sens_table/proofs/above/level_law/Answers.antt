use Rattle.sens_table.proofs.Bounds.{descends-alone, faster-alone, level-alone}
use Rattle.sens_table.proofs.above.level_law.Goals as goal

pub returns-clause-level : goal.returns-clause-level
returns-clause-level c = level-alone

pub returns-clause-descends : goal.returns-clause-descends
returns-clause-descends c = descends-alone

pub returns-clause-descends_faster : goal.returns-clause-descends_faster
returns-clause-descends_faster c = faster-alone
