-- Strengths of an advisory: their order, their floors, and which are allowed (FAA, Introduction to TCAS II v7.1; the
-- floors are this project's profile).
use Rattle.std.specs.Prelude.{ℕ, Bool, true, false, ◌&&◌, ℤ, pos, neg_ℤ, int_le, nat_le, List, [], ◌∷◌}
use Rattle.acas_base.specs.declared.advisory.Sense.{Sense}
use Rattle.acas_base.specs.declared.advisory.Sense.TheVariants.{Up, Down}
use Rattle.acas_base.specs.declared.advisory.Strength.{Strength}
use Rattle.acas_base.specs.declared.advisory.Strength.TheVariants.{Limit2000, Limit1000, Limit500, Level, Positive, Increase}
use Rattle.acas_base.specs.declared.choice.Choice.{Choice}
use Rattle.acas_base.specs.declared.choice.Choice.TheVariants.{Fresh, Steady, Urgent}
use Rattle.acas_base.specs.declared.view.View.{View}

-- The place of a strength in their order, weakest first.
abbrev pub place_of : Strength → ℕ
place_of Limit2000 = 0
place_of Limit1000 = 1
place_of Limit500 = 2
place_of Level = 3
place_of Positive = 4
place_of Increase = 5

-- The second strength is at least as strong as the first.
abbrev pub is_at_most : Strength → Strength → Bool
is_at_most weaker stronger = nat_le (place_of weaker) (place_of stronger)

abbrev pub weakest_first : List Strength
weakest_first = Limit2000 ∷ Limit1000 ∷ Limit500 ∷ Level ∷ Positive ∷ Increase ∷ []

abbrev pub strongest_first : List Strength
strongest_first = Increase ∷ Positive ∷ Level ∷ Limit500 ∷ Limit1000 ∷ Limit2000 ∷ []

-- The floor of a strength: the least vertical rate in its sense that it asks for, in 1/1024 ft/s.
abbrev pub floor_of : Strength → ℤ
floor_of Limit2000 = neg_ℤ (pos 34133)
floor_of Limit1000 = neg_ℤ (pos 17066)
floor_of Limit500 = neg_ℤ (pos 8533)
floor_of Level = pos 0
floor_of Positive = pos 25600
floor_of Increase = pos 42666

-- Own rate meets the floor already. For up it is at least the floor, and for down at most the opposite of the floor.
abbrev pub meets_floor : View → Sense → Strength → Bool
meets_floor view Up strength = int_le (floor_of strength) view.rate
meets_floor view Down strength = int_le view.rate (neg_ℤ (floor_of strength))

-- A fresh choice goes by the first response.
abbrev pub is_fresh : Choice → Bool
is_fresh Fresh = true
is_fresh Steady = false
is_fresh Urgent = false

-- An urgent choice alone may increase.
abbrev pub may_increase : Choice → Bool
may_increase Fresh = false
may_increase Steady = false
may_increase Urgent = true

-- The strengths that a choice may take. A limit is allowed only where own rate meets its floor already. To climb, the
-- aircraft has to be able to. To descend, and to descend faster, it has to be high enough above ground.
abbrev pub is_allowed : View → Sense → Strength → Choice → Bool
is_allowed view sense Limit2000 choice = meets_floor view sense Limit2000
is_allowed view sense Limit1000 choice = meets_floor view sense Limit1000
is_allowed view sense Limit500 choice = meets_floor view sense Limit500
is_allowed view sense Level choice = true
is_allowed view Up Positive choice = view.climbs
is_allowed view Down Positive choice = view.descends
is_allowed view Up Increase choice = may_increase choice && view.climbs
is_allowed view Down Increase choice = may_increase choice && view.descends_faster
