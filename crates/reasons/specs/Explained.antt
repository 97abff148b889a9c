-- What holds where a cell followed by a rule, and what the rule gives.
use Rattle.std.specs.Prelude.{◌≡◌, ◌≢◌, ℕ, ◌<◌, ◌&&◌, true, false, not, nat_le, List, ◌∷◌, length}
use Rattle.acas_base.specs.Choice.{choice_after, chosen_sense, has_to_reverse, strength_after, weakens as weakens_to_level}
use Rattle.acas_base.specs.Complements.{forbids}
use Rattle.acas_base.specs.Next.{changes_sense, continuation_of, new_advisory, reversal_of, starting_sense, traffic_cell}
use Rattle.acas_base.specs.Strengths.{is_allowed, place_of}
use Rattle.acas_base.specs.Encounter.{Parts}
use Rattle.acas_base.specs.declared.advisory.Cell.{Cell}
use Rattle.acas_base.specs.declared.advisory.Cell.TheVariants as cells
use Rattle.acas_base.specs.declared.advisory.Cells.{Cells}
use Rattle.acas_base.specs.declared.advisory.Intent.{Intent}
use Rattle.acas_base.specs.declared.advisory.Rank.{Rank}
use Rattle.acas_base.specs.declared.advisory.Rank.TheVariants.{Second}
use Rattle.acas_base.specs.declared.advisory.Vrc.{Vrc}
use Rattle.acas_base.specs.declared.advisory.Vrc.TheVariants.{Nil}
use Rattle.acas_base.specs.declared.entry.Entry.{Entry}
use Rattle.acas_base.specs.declared.entry.Entry.TheVariants.{Commit}
use Rattle.acas_base.specs.declared.view.View.{View}
use Rattle.air_journal.specs.Airs.{air_of}
use Rattle.air_rules.specs.Journal.{Begins}
use Rattle.air_rules.specs.Takes.{complement_from}
use Rattle.craft_view.specs.Views.{view_of}
use Rattle.reasons.specs.Reasons.{reason_of}
use Rattle.reasons.specs.declared.rules.Rule.{Rule}
use Rattle.reasons.specs.declared.rules.Rule.TheVariants.{Untested, Starts, StartsAsTold, Traffic, Quiet, EndsBelowLevel, EndsWithoutThreat, Obeys, Reverses, Strengthens, Keeps, Weakens, Capped}

-- The cell isn't an advisory.
abbrev pub AdvisesNothing : Cell → Type 0
AdvisesNothing cells.Clear = Unit {0}
AdvisesNothing cells.Traffic = Unit {0}
AdvisesNothing (cells.Ra it) = ⊥

-- An advisory goes on: own aircraft resolves, and the advisory lasts or is younger than five cycles.
pub record GoesOn (it : Intent) (view : View) : Type 0 where
  pub tested : view.tested ≡ true
  pub resolves : view.resolves ≡ true
  pub lasts : (not view.lasts && nat_le 5 it.age) ≡ false

-- After a cell, by this view, complement in force and rank, this rule applies and gives this cell.
pub data Explains (view : View) (complement : Vrc) (rank : Rank) : Cell → Rule → Cell → Type 0 where
  untested : {before : Cell} → view.tested ≡ false → Explains view complement rank before Untested cells.Clear
  starts : {before : Cell} → AdvisesNothing before → view.tested ≡ true → view.threat ≡ true → complement ≡ Nil → Explains view complement rank before Starts (new_advisory view (chosen_sense view))
  starts_as_told : {before : Cell} → AdvisesNothing before → view.tested ≡ true → view.threat ≡ true → complement ≢ Nil → Explains view complement rank before StartsAsTold (new_advisory view (starting_sense view complement))
  traffic : {before : Cell} → AdvisesNothing before → view.tested ≡ true → view.threat ≡ false → view.traffic ≡ true → Explains view complement rank before Traffic cells.Traffic
  quiet : {before : Cell} → AdvisesNothing before → view.tested ≡ true → view.threat ≡ false → view.traffic ≡ false → Explains view complement rank before Quiet cells.Clear
  ends_below_level : {it : Intent} → view.tested ≡ true → view.resolves ≡ false → Explains view complement rank (cells.Ra it) EndsBelowLevel (traffic_cell view)
  ends_without_threat : {it : Intent} → view.tested ≡ true → view.resolves ≡ true → view.lasts ≡ false → nat_le 5 it.age ≡ true → Explains view complement rank (cells.Ra it) EndsWithoutThreat (traffic_cell view)
  obeys : {it : Intent} → GoesOn it view → rank ≡ Second → forbids complement it.sense ≡ true → Explains view complement rank (cells.Ra it) Obeys (reversal_of it view it.turned)
  reverses : {it : Intent} → GoesOn it view → rank ≢ Second → has_to_reverse it view ≡ true → it.turned ≡ false → Explains view complement rank (cells.Ra it) Reverses (reversal_of it view true)
  strengthens : {it : Intent} → GoesOn it view → changes_sense it view complement rank ≡ false → place_of it.strength < place_of (strength_after it view) → Explains view complement rank (cells.Ra it) Strengthens (continuation_of it view)
  keeps : {it : Intent} → GoesOn it view → changes_sense it view complement rank ≡ false → place_of it.strength ≡ place_of (strength_after it view) → Explains view complement rank (cells.Ra it) Keeps (continuation_of it view)
  weakens : {it : Intent} → GoesOn it view → changes_sense it view complement rank ≡ false → place_of (strength_after it view) < place_of it.strength → weakens_to_level it view ≡ true → Explains view complement rank (cells.Ra it) Weakens (continuation_of it view)
  capped : {it : Intent} → GoesOn it view → changes_sense it view complement rank ≡ false → place_of (strength_after it view) < place_of it.strength → weakens_to_level it view ≡ false → is_allowed view it.sense it.strength (choice_after it view) ≡ false → Explains view complement rank (cells.Ra it) Capped (continuation_of it view)

-- By one view, complement and rank, and after one cell, at most one rule applies, and it gives one cell.
abbrev pub ExplainsOnce : Type 0
ExplainsOnce = (view : View) (complement : Vrc) (rank : Rank) (before : Cell) (one two : Rule) (cell_one cell_two : Cell) →
    Explains view complement rank before one cell_one → Explains view complement rank before two cell_two → (one ≡ two) × (cell_one ≡ cell_two)

-- The cell of a reason is the one that its rule gives after the cell before, by its rank, the view in the cycle and the
-- complement in force.
abbrev pub IsExplained : Parts → List Entry → ℕ → ℕ → Cells → ℕ → Type 0
IsExplained e journal own cycle cells other =
    let reason = reason_of e journal own cycle cells other in
    Explains (view_of e own other cycle) (complement_from (air_of e) journal own other) reason.seen.rank reason.before reason.rule reason.cell

-- What holds of the reason of each commit of a journal, against each other aircraft.
abbrev pub OfEachReason : (Parts → List Entry → ℕ → ℕ → Cells → ℕ → Type 0) → Parts → List Entry → Type 0
OfEachReason Holds e journal =
    (earlier : List Entry) (own cycle : ℕ) (cells : Cells) (other : ℕ) → Begins (Commit own cycle cells ∷ earlier) journal → other < length e.crafts → other ≢ own → Holds e earlier own cycle cells other

abbrev pub AreExplained : Parts → List Entry → Type 0
AreExplained e journal = OfEachReason IsExplained e journal
