-- The weakest and the strongest strength of some kind.
use Rattle.std.specs.Prelude.{◌<◌, ◌≤◌, ◌⊎◌, IsTrue}
use Rattle.acas_base.specs.Strengths.{place_of, is_allowed}
use Rattle.acas_base.specs.Choice.{choice_after, gives_alim, least_strength}
use Rattle.acas_base.specs.declared.advisory.Intent.{Intent}
use Rattle.acas_base.specs.declared.advisory.Sense.{Sense}
use Rattle.acas_base.specs.declared.advisory.Strength.{Strength}
use Rattle.acas_base.specs.declared.choice.Choice.{Choice}
use Rattle.acas_base.specs.declared.view.View.{View}

-- It is of the kind, and no weaker one is.
abbrev pub IsWeakest : (Strength → Type 0) → Strength → Type 0
IsWeakest Is strength = Is strength × ((other : Strength) → place_of other < place_of strength → ¬ Is other)

-- It is of the kind, and no stronger one is.
abbrev pub IsStrongest : (Strength → Type 0) → Strength → Type 0
IsStrongest Is strength = Is strength × ((other : Strength) → place_of strength < place_of other → ¬ Is other)

-- A choice may take the strength.
abbrev pub IsAllowed : View → Sense → Choice → Strength → Type 0
IsAllowed view sense choice strength = IsTrue (is_allowed view sense strength choice)

abbrev pub IsStrongestAllowed : View → Sense → Choice → Strength → Type 0
IsStrongestAllowed view sense choice strength = IsStrongest (IsAllowed view sense choice) strength

-- The weakest strength of the kind. Where none is of the kind, it is the strongest allowed one.
abbrev pub IsWeakestOrStrongest : (Strength → Type 0) → View → Sense → Choice → Strength → Type 0
IsWeakestOrStrongest Is view sense choice strength = IsWeakest Is strength ⊎ (((other : Strength) → ¬ Is other) × IsStrongestAllowed view sense choice strength)

-- A choice may take the strength, and it gives ALIM.
abbrev pub Serves : View → Sense → Choice → Strength → Type 0
Serves view sense choice strength = IsAllowed view sense choice strength × IsTrue (gives_alim view sense strength choice)

abbrev pub IsLeast : View → Sense → Choice → Strength → Type 0
IsLeast view sense choice strength = IsWeakestOrStrongest (Serves view sense choice) view sense choice strength

-- A choice may take the strength, and it is at least as strong as two others.
abbrev pub Reaches : View → Sense → Choice → Strength → Strength → Strength → Type 0
Reaches view sense choice one two strength = IsAllowed view sense choice strength × (place_of one ≤ place_of strength) × (place_of two ≤ place_of strength)

-- The next strength of an advisory that doesn't weaken to Level.
abbrev pub IsNext : Intent → View → Strength → Type 0
IsNext before view strength =
    let choice = choice_after before view in
    IsWeakestOrStrongest (Reaches view before.sense choice before.strength (least_strength view before.sense choice)) view before.sense choice strength
