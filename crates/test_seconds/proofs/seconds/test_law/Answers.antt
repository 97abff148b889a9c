use Rattle.test_seconds.proofs.Testing.{altitude-goes, range-goes}
use Rattle.test_seconds.proofs.seconds.test_law.Goals as goal

pub returns-clause-range : goal.returns-clause-range
returns-clause-range c = range-goes

pub returns-clause-altitude : goal.returns-clause-altitude
returns-clause-altitude c = altitude-goes
