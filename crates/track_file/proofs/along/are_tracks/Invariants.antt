use Rattle.std.proofs.Common.{◌<◌, ℕ, get_or, Vec, Global}
use Rattle.track_file.specs.Track.{IsTrack}
use Rattle.track_file.specs.declared.track.Point.{Point}
use Rattle.track_file.proofs.along.are_tracks.Given as goal

-- The lists so far are tracks.
abbrev pub invariant-loop-craft : goal.invariant-loop-craft
invariant-loop-craft l = (k : ℕ) (d : Vec Point Global) → k < l.craft → IsTrack (get_or l.tracks k d).items
