use Rattle.std.proofs.Common.{map, take}
use Rattle.std.specs.List.{flat_map}
use Rattle.enc_file.specs.Spelling.{climb_records, line_of}
use Rattle.enc_file.proofs.canonical.put_climbs.Given as goal

-- The lines of the aircraft so far were put.
abbrev pub invariant-loop-craft : goal.invariant-loop-craft
invariant-loop-craft g l = g.S.LineSink.took l.fn.sink l.sink (map line_of (flat_map climb_records (take l.craft-index l.crafts)))
