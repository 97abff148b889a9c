use Rattle.track_file.proofs.Covering.{around-covered, covered-at}
use Rattle.track_file.proofs.Placed.{rounded-near, rounded-only}
use Rattle.track_file.proofs.track.rounding_law.Goals as goal

pub returns-clause-covered : goal.returns-clause-covered
returns-clause-covered c = covered-at

pub returns-clause-around : goal.returns-clause-around
returns-clause-around c = around-covered

pub returns-clause-near : goal.returns-clause-near
returns-clause-near c = rounded-near

pub returns-clause-only : goal.returns-clause-only
returns-clause-only c = rounded-only
