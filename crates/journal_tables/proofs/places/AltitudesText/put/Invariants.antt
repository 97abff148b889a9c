use Rattle.std.specs.List.{flat_map, range_with_len}
use Rattle.journal_tables.specs.Places.{lines_in}
use Rattle.journal_tables.proofs.places.AltitudesText.put.Given as goal

-- The lines of the cycles so far were put.
abbrev pub invariant-loop-cycle : goal.invariant-loop-cycle
invariant-loop-cycle g l = g.S.LineSink.took l.fn.sink l.sink (flat_map (lines_in l.self.encounter l.self.journal) (range_with_len 1 l.cycle))
