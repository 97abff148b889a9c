use Rattle.std.proofs.Common.{◌≡◌, ◌++◌, take}
use Rattle.std.specs.Prelude.{filter, ◌==◌}
use Rattle.acas_base.specs.declared.craft.Leg.{Leg}
use Rattle.followed_advice.proofs.kept.add_own_legs.Given as goal

-- Those among the legs so far.
abbrev pub invariant-loop-at : goal.invariant-loop-at
invariant-loop-at l = l.legs.items ≡ l.fn.legs.items ++ filter (λ (leg : Leg). leg.craft == l.own) (take l.at l.encounter.legs)
