use Rattle.std.proofs.Common.{map, take}
use Rattle.enc_file.proofs.canonical.put_each.Given as goal

-- The lines of the records so far were put.
abbrev pub invariant-loop-item : goal.invariant-loop-item
invariant-loop-item g l = g.S.LineSink.took l.fn.sink l.sink (map (g.T.Spelled.spelling l.fn.crafts) (take l.item-index l.records))
