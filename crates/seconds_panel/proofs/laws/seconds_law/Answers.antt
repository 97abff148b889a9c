use Rattle.seconds_panel.proofs.Placing.{are-lines, are-points, are-within, in-order}
use Rattle.seconds_panel.proofs.laws.seconds_law.Goals as goal

pub returns-clause-within : goal.returns-clause-within
returns-clause-within c top e labels pair most = are-within top e labels pair most

pub returns-clause-lines : goal.returns-clause-lines
returns-clause-lines c e pair series = are-lines e pair series

pub returns-clause-points : goal.returns-clause-points
returns-clause-points c top e pair series = are-points top e pair series

pub returns-clause-in_order : goal.returns-clause-in_order
returns-clause-in_order c top = in-order top
