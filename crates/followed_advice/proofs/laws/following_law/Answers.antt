use Rattle.followed_advice.proofs.Causes.{none-there, once-only, one-at-most}
use Rattle.followed_advice.proofs.laws.following_law.Goals as goal

pub returns-clause-only : goal.returns-clause-only
returns-clause-only c = one-at-most

pub returns-clause-none : goal.returns-clause-none
returns-clause-none c = none-there

pub returns-clause-once : goal.returns-clause-once
returns-clause-once c = once-only
