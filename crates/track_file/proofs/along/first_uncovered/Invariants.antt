use Rattle.std.proofs.Common.{◌≡◌, ◌<◌, ℕ, true, get_or, Vec, Global}
use Rattle.track_file.specs.Track.{covers}
use Rattle.track_file.specs.declared.track.Point.{Point}
use Rattle.track_file.proofs.along.first_uncovered.Given as goal

-- The tracks so far cover the run.
abbrev pub invariant-loop-craft : goal.invariant-loop-craft
invariant-loop-craft l = (k : ℕ) (d : Vec Point Global) → k < l.craft → covers (get_or l.tracks k d).items l.cycles ≡ true
