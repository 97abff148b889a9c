use Rattle.seeing_tests.proofs.track_file_tests.made_along.Goals as goal

pub fly_along-requires-clause-tracks : goal.fly_along-requires-clause-tracks
fly_along-requires-clause-tracks c = c.are_tracks.ensures.0 c.if-not-are_tracks.false
