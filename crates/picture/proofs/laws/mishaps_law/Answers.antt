use Rattle.picture.specs.declared.mishaps.Sign.TheVariants.{Cross, HollowHead}
use Rattle.picture.proofs.Befallen.{are-sent-rows}
use Rattle.picture.proofs.laws.mishaps_law.Goals as goal

pub returns-clause-lost : goal.returns-clause-lost
returns-clause-lost c e journal legal = are-sent-rows e journal Cross legal

pub returns-clause-spoilt : goal.returns-clause-spoilt
returns-clause-spoilt c e journal legal = are-sent-rows e journal HollowHead legal
