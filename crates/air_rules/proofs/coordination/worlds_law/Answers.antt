use Rattle.air_rules.proofs.coordination.worlds_law.Goals as goal
use Rattle.air_rules.proofs.SameWorlds.{two-worlds}

pub returns : goal.returns
returns c one two journal_one journal_two l m = two-worlds one two journal_one journal_two l m
