use Rattle.std.specs.List.{flat_map, range_with_len}
use Rattle.journal_tables.specs.Places.{lines_of}
use Rattle.journal_tables.proofs.places.put_cycle.Given as goal

-- The lines of the aircraft so far were put.
abbrev pub invariant-loop-at : goal.invariant-loop-at
invariant-loop-at g l = g.S.LineSink.took l.fn.sink l.sink (flat_map (lines_of l.altitudes.encounter l.altitudes.journal l.cycle) (range_with_len 0 l.at))
