use Rattle.std.proofs.Common.{◌≡◌, ◌-◌, ◌^◌, ◌<◌}
use Rattle.pair_panels.specs.Distances.{greatest}
use Rattle.pair_panels.proofs.distance.greatest.Given as goal

-- The greatest distance of the cycles so far.
abbrev pub invariant-loop-cycle : goal.invariant-loop-cycle
invariant-loop-cycle l = (l.most ≡ greatest l.encounter l.distance l.pair l.fn.least (l.cycle - 1)) × (l.most < 2 ^ 26)
