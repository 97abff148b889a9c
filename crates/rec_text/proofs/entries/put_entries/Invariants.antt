use Rattle.std.proofs.Common.{map, take}
use Rattle.std.specs.Prelude.{reverse}
use Rattle.rec_text.specs.Entries.{entry_line}
use Rattle.rec_text.proofs.entries.put_entries.Given as goal

-- The lines of the entries so far were put.
abbrev pub invariant-loop-at : goal.invariant-loop-at
invariant-loop-at g l = g.S.LineSink.took l.fn.sink l.sink (map (entry_line l.count) (take l.at (reverse l.state.journal)))
