use Rattle.std.proofs.Common.{◌≡◌, map, replicate, []}
use Rattle.track_text.proofs.tables.no_tracks.Given as goal

-- So many empty tracks.
abbrev pub invariant-loop : goal.invariant-loop
invariant-loop l = map (λ points. points.items) l.tracks.items ≡ replicate l.counter []
