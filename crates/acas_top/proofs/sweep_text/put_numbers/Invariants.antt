use Rattle.std.proofs.Common.{◌≡◌, map}
use Rattle.std.specs.List.{range_with_len}
use Rattle.acas_top.specs.Sweeping.{line_at}
use Rattle.sweep.specs.Numbers.{number_at}
use Rattle.acas_top.proofs.sweep_text.put_numbers.Given as goal

-- The lines so far were put, and the number is the next one.
abbrev pub invariant-loop-at : goal.invariant-loop-at
invariant-loop-at g l = (l.number ≡ number_at l.first l.at) × g.S.LineSink.took l.fn.sink l.sink (map (line_at l.first l.list) (range_with_len 0 l.at))
