use Rattle.plan_panel.proofs.Placing.{are-shown, are-within}
use Rattle.plan_panel.proofs.Naming.{names-apart}
use Rattle.plan_panel.proofs.laws.plan_law.Goals as goal

pub returns-clause-within : goal.returns-clause-within
returns-clause-within c top e start labels nearest most some is = are-within top e start labels nearest most some is

pub returns-clause-shown : goal.returns-clause-shown
returns-clause-shown c top e = are-shown top e

pub returns-clause-apart : goal.returns-clause-apart
returns-clause-apart c top e = names-apart top e
