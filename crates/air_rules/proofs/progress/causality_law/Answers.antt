use Rattle.air_rules.proofs.progress.causality_law.Goals as goal
use Rattle.air_rules.proofs.SameRounds.{the-same-to}

pub returns : goal.returns
returns c one two last journal_one journal_two sound sound_too alike s t = the-same-to one two last journal_one journal_two sound sound_too alike s t
