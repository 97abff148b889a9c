-- The order of the lists of an encounter.
use Rattle.std.specs.Prelude.{ℕ, Bool, ◌==◌, ◌&&◌, ◌||◌, nat_lt, IsTrue, List, length}
use Rattle.std.specs.List.{AllAdjacentBelow}
use Rattle.acas_base.specs.declared.craft.Leg.{Leg}
use Rattle.acas_base.specs.declared.craft.Miss.{Miss}
use Rattle.acas_base.specs.declared.label.Call.{Call}
use Rattle.acas_base.specs.declared.link.LinkPlan.{LinkPlan}
use Rattle.acas_base.specs.declared.link.Fate.{Fate}

-- Three numbers. The first counts most.
abbrev pub Key : Type 0
Key = ℕ × ℕ × ℕ

abbrev pub is_below : Key → Key → Bool
is_below a b = nat_lt a.0 b.0 || (a.0 == b.0 && (nat_lt a.1 b.1 || (a.1 == b.1 && nat_lt a.2 b.2)))

abbrev pub is_same_key : Key → Key → Bool
is_same_key a b = a.0 == b.0 && (a.1 == b.1 && a.2 == b.2)

-- The order of records by their keys, and the test for the record with a key.
abbrev pub below_by : {X : Type 0} → (X → Key) → X → X → Bool
below_by key_of a b = is_below (key_of a) (key_of b)

abbrev pub has_key : {X : Type 0} → (X → Key) → Key → X → Bool
has_key key_of wanted it = is_same_key (key_of it) wanted

-- Call signs stand by aircraft.
abbrev pub call_key : Call → Key
call_key call = (call.craft, 0, 0)

abbrev pub call_below : Call → Call → Bool
call_below a b = below_by call_key a b

-- Legs stand by aircraft and first cycle.
abbrev pub leg_key : Leg → Key
leg_key leg = (leg.craft, 0, leg.from)

abbrev pub leg_below : Leg → Leg → Bool
leg_below a b = below_by leg_key a b

-- Misses stand by aircraft, target and cycles, and those of one pair have no cycle in common.
abbrev pub miss_below : Miss → Miss → Bool
miss_below a b = is_below (a.own, a.target, a.to) (b.own, b.target, b.from)

-- Plans stand by sender and receiver.
abbrev pub plan_key : LinkPlan → Key
plan_key plan = (plan.sender, plan.receiver, 0)

abbrev pub plan_below : LinkPlan → LinkPlan → Bool
plan_below a b = below_by plan_key a b

-- Fates stand by sender, receiver and number.
abbrev pub fate_key : Fate → Key
fate_key fate = (fate.sender, fate.receiver, fate.number)

abbrev pub fate_below : Fate → Fate → Bool
fate_below a b = below_by fate_key a b

-- Each is below the next.
abbrev pub IsRising : {X : Type 0} → (X → X → Bool) → List X → Type 0
IsRising {X} below xs = AllAdjacentBelow (λ (a b : X). IsTrue (below a b)) xs (length xs)
