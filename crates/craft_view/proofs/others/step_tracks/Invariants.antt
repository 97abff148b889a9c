use Rattle.std.proofs.Common.{◌≡◌, ℕ, ◌<◌, ◌≤◌, length, get_or}
use Rattle.acas_base.specs.declared.TheConstants.{CRAFTS}
use Rattle.craft_view.specs.KnownTracks.{no_tracks, tracks_then}
use Rattle.craft_view.proofs.others.step_tracks.Given as goal

abbrev pub invariant-loop-target : goal.invariant-loop-target
invariant-loop-target l = record {
  few : length l.places.encounter.crafts ≤ CRAFTS;
  size : length l.tracks ≡ CRAFTS;
  done : (k : ℕ) → k < l.target → get_or l.tracks k no_tracks ≡ tracks_then l.places.encounter l.own l.places.cycle k (get_or l.initial.tracks k no_tracks);
  rest : (k : ℕ) → l.target ≤ k → get_or l.tracks k no_tracks ≡ get_or l.initial.tracks k no_tracks;
}
