use Rattle.std.specs.List.{flat_map, range_with_len}
use Rattle.pair_watch.specs.Watching.{lines_of_low}
use Rattle.pair_watch.proofs.intervals.put_at.Given as goal

-- The lines of the aircraft so far were put.
abbrev pub invariant-loop-low : goal.invariant-loop-low
invariant-loop-low g l = g.S.LineSink.took l.fn.sink l.sink (flat_map (lines_of_low l.state.encounter l.state.journal l.reader.read l.at) (range_with_len 0 l.low))
