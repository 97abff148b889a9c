use Rattle.track_text.proofs.Bare.{nothing-kept}
use Rattle.track_text.proofs.tables.TrackTables.new.Goals as goal

pub returns : goal.returns
returns c = nothing-kept c.in_ok-new.field-0 c.in_ok-no_tracks.field-0 c.in_ok-new.ensures c.in_ok-no_tracks.ensures
