use Rattle.strength_pick.proofs.Unchosen.{least-skips, next-skips, strongest-skips}
use Rattle.strength_pick.proofs.laws.limits_law.Goals as goal

pub returns-clause-strongest : goal.returns-clause-strongest
returns-clause-strongest c = strongest-skips

pub returns-clause-least : goal.returns-clause-least
returns-clause-least c = least-skips

pub returns-clause-next : goal.returns-clause-next
returns-clause-next c = next-skips
