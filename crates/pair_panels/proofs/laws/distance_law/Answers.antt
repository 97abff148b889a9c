use Rattle.pair_panels.proofs.Placing.{are-shown, are-within}
use Rattle.pair_panels.proofs.laws.distance_law.Goals as goal

pub returns-clause-within : goal.returns-clause-within
returns-clause-within c top e labels distance pair most is = are-within top e labels distance pair most is

pub returns-clause-shown : goal.returns-clause-shown
returns-clause-shown c top e distance pair = are-shown top e distance pair
