use Rattle.std.specs.Prelude.{flat_map}
use Rattle.std.specs.List.{range_with_len}
use Rattle.possibilities.specs.Listing.{equal_lines_of}
use Rattle.possibilities.proofs.possibilities.Possibilities.put_equal_from.Given as goal

-- The lines of the aircraft with the others so far were taken.
abbrev pub invariant-loop-high : goal.invariant-loop-high
invariant-loop-high g l = g.S.LineSink.took l.fn.sink l.sink (flat_map (equal_lines_of l.self l.low) (range_with_len 0 l.high))
