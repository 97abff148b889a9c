use Rattle.std.specs.List.{flat_map, range_with_len}
use Rattle.std.specs.Prelude.{option_to_list}
use Rattle.pair_watch.specs.Watching.{line_at}
use Rattle.pair_watch.proofs.intervals.put_low.Given as goal

-- The lines of the pairs so far were put.
abbrev pub invariant-loop-high : goal.invariant-loop-high
invariant-loop-high g l = g.S.LineSink.took l.fn.sink l.sink (flat_map (λ high. option_to_list (line_at l.state.encounter l.state.journal l.reader.read l.at l.low high)) (range_with_len 0 l.high))
