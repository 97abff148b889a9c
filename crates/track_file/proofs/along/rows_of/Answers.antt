use Rattle.std.proofs.Common.{Global, Vec, subst, sym}
use Rattle.track_file.specs.Track.{IsTrack}
use Rattle.track_file.specs.declared.track.Point.{Point}
use Rattle.track_file.proofs.along.rows_of.Goals as goal

pub rounded_places-requires-clause-track : goal.rounded_places-requires-clause-track
rounded_places-requires-clause-track c =
    subst IsTrack (sym c.as_slice.ensures.value)
    (subst (λ (v : Vec Point Global). IsTrack v.items) (sym c.index-tracks-craft.is) (c.requires.tracks c.loop-craft.craft c.index-tracks-craft.result c.loop-craft-test.true))
