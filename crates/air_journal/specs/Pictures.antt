-- What a picture has to show for a commit.
use Rattle.std.specs.Prelude.{◌≡◌, ℕ, ◌+◌, ◌<◌, Bool, true, List, slice_index_or}
use Rattle.acas_base.specs.Encounter.{Parts}
use Rattle.acas_base.specs.Messages.{has_advisory}
use Rattle.acas_base.specs.declared.TheConstants.{CRAFTS}
use Rattle.acas_base.specs.declared.advisory.Cell.{Cell}
use Rattle.acas_base.specs.declared.entry.Entry.{Entry}
use Rattle.acas_base.specs.declared.view.Picture.{Picture}
use Rattle.acas_base.specs.declared.view.View.{View}
use Rattle.air_rules.specs.Journal.{commits, last_cell}
use Rattle.craft_view.specs.Views.{shown, view_of}

-- What is shown of a view is enough for the cell after this one: where this one is an advisory, all is shown.
pub record IsEnough (before : Cell) (whole view : View) : Type 0 where
  pub asked : Bool
  pub asks : has_advisory before ≡ true → asked ≡ true
  pub is : view ≡ shown asked whole

-- The picture shows enough of each view for the next commit of an aircraft.
abbrev pub Suffices : Parts → List Entry → ℕ → Picture → Type 0
Suffices e journal own picture =
    (other : ℕ) (d : View) → other < CRAFTS → IsEnough (last_cell journal own other) (view_of e own other (commits journal own + 1)) (slice_index_or picture.views other d)
