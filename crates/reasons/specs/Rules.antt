-- By which rule the next cell follows (FAA, Introduction to TCAS II v7.1; ICAO Annex 10 vol. IV, 4.3; with the details
-- of this project's profile).
use Rattle.std.specs.Prelude.{not, if◌then◌else◌, ◌==◌, nat_lt}
use Rattle.acas_base.specs.Choice.{strength_after, weakens}
use Rattle.acas_base.specs.Next.{changes_sense, ends}
use Rattle.acas_base.specs.Strengths.{place_of}
use Rattle.acas_base.specs.declared.advisory.Cell.{Cell}
use Rattle.acas_base.specs.declared.advisory.Cell.TheVariants as cells
use Rattle.acas_base.specs.declared.advisory.Intent.{Intent}
use Rattle.acas_base.specs.declared.advisory.Rank.{Rank}
use Rattle.acas_base.specs.declared.advisory.Rank.TheVariants.{First, Second, Free}
use Rattle.acas_base.specs.declared.advisory.Vrc.{Vrc}
use Rattle.acas_base.specs.declared.advisory.Vrc.TheVariants.{Nil, NotBelow, NotAbove}
use Rattle.acas_base.specs.declared.view.View.{View}
use Rattle.reasons.specs.declared.rules.Rule.{Rule}
use Rattle.reasons.specs.declared.rules.Rule.TheVariants.{Untested, Starts, StartsAsTold, Traffic, Quiet, EndsBelowLevel, EndsWithoutThreat, Obeys, Reverses, Strengthens, Keeps, Weakens, Capped}

-- An advisory starts: as it was told, where a complement is in force.
abbrev pub told_rule : Vrc → Rule
told_rule Nil = Starts
told_rule NotBelow = StartsAsTold
told_rule NotAbove = StartsAsTold

-- There was no advisory.
abbrev pub starting_rule : View → Vrc → Rule
starting_rule view complement = if view.threat then told_rule complement else if view.traffic then Traffic else Quiet

-- An advisory changes its sense: the one that gives way obeys, any other one reverses.
abbrev pub turning_rule : Rank → Rule
turning_rule Second = Obeys
turning_rule First = Reverses
turning_rule Free = Reverses

-- An advisory keeps its sense: by the strength that follows, beside the one before.
abbrev pub strength_rule : Intent → View → Rule
strength_rule before view =
    let was = place_of before.strength in
    let is = place_of (strength_after before view) in
    if nat_lt was is then Strengthens else if was == is then Keeps else if weakens before view then Weakens else Capped

-- There was an advisory.
abbrev pub advisory_rule : Intent → View → Vrc → Rank → Rule
advisory_rule before view complement rank =
    if not view.resolves then EndsBelowLevel
    else if ends before view then EndsWithoutThreat
    else if changes_sense before view complement rank then turning_rule rank
    else strength_rule before view

abbrev pub tested_rule : Cell → View → Vrc → Rank → Rule
tested_rule cells.Clear view complement rank = starting_rule view complement
tested_rule cells.Traffic view complement rank = starting_rule view complement
tested_rule (cells.Ra before) view complement rank = advisory_rule before view complement rank

-- The rule by which the next cell follows from the cell before, the view, the complement in force and the rank.
abbrev pub rule_of : Cell → View → Vrc → Rank → Rule
rule_of before view complement rank = if view.tested then tested_rule before view complement rank else Untested
