use Rattle.std.proofs.Common.{take}
use Rattle.std.specs.Prelude.{map}
use Rattle.air_journal.specs.Airs.{air_of}
use Rattle.summary.specs.Lines.{stretch_line}
use Rattle.summary.specs.Stretches.{starts_of}
use Rattle.summary.proofs.stretches.put_first.Given as goal

-- The lines of the stretches so far were put.
abbrev pub invariant-loop-place : goal.invariant-loop-place
invariant-loop-place g l = g.S.LineSink.took l.fn.sink l.sink (map (stretch_line l.page.encounter l.page.journal l.own l.other) (take l.place (starts_of (air_of l.page.encounter) l.page.journal l.own l.other)))
