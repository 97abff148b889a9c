use Rattle.std.specs.Prelude.{map}
use Rattle.std.specs.List.{flat_map, range_with_len}
use Rattle.reasons.specs.Reasons.{pair_reasons}
use Rattle.reasons.specs.Columns.{reason_line}
use Rattle.reasons.proofs.commits.put_commit.Given as goal

-- The lines against the aircraft so far were put.
abbrev pub invariant-loop-other : goal.invariant-loop-other
invariant-loop-other g l = g.S.LineSink.took l.fn.sink l.sink (map (reason_line l.reader.encounter.profile) (flat_map (pair_reasons l.reader.encounter l.reader.read l.commit.own l.commit.cycle l.commit.cells.now) (range_with_len 0 l.other)))
