use Rattle.leg_rows.proofs.OneFlight.{one-flight, rows-flown, rows-needed}
use Rattle.leg_rows.proofs.Together.{all-listed}
use Rattle.leg_rows.proofs.flights.flights_law.Goals as goal

pub returns-clause-listed : goal.returns-clause-listed
returns-clause-listed c = all-listed

pub returns-clause-flown : goal.returns-clause-flown
returns-clause-flown c = rows-flown

pub returns-clause-needed : goal.returns-clause-needed
returns-clause-needed c = rows-needed

pub returns-clause-only : goal.returns-clause-only
returns-clause-only c = one-flight
