use Rattle.std.proofs.Common.{◌≡◌, None, take}
use Rattle.std.specs.Prelude.{fold}
use Rattle.flight.specs.Flight.{later}
use Rattle.variants.specs.Drawn.{begun_legs}
use Rattle.variants.proofs.drawn.leg_from.Given as goal

-- The best leg so far.
abbrev pub invariant-loop-index : goal.invariant-loop-index
invariant-loop-index l = l.last ≡ fold later None (begun_legs l.craft l.cycle (take l.index l.legs))
