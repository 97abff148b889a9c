-- How large the numbers of a view are.
use Rattle.std.specs.Prelude.{◌≤◌, ◌^◌, All, IfSome, unsigned_abs}
use Rattle.acas_base.specs.declared.view.Seps.{Seps}
use Rattle.acas_base.specs.declared.view.View.{View}
use Rattle.craft_view.specs.KnownTracks.{IsMotion}
use Rattle.craft_view.specs.Own.{AreRows}
use Rattle.reasons.specs.declared.seen.OwnSide.{OwnSide}
use Rattle.reasons.specs.declared.seen.Seen.{Seen}

-- Each separation is less than 2^20 ft.
pub record AreModerate (seps : Seps) : Type 0 where
  pub up : All (λ n. unsigned_abs n ≤ 2 ^ 30) seps.up
  pub down : All (λ n. unsigned_abs n ≤ 2 ^ 30) seps.down

-- So is ALIM, less than 2^15 ft.
pub record IsModerate (view : View) : Type 0 where
  pub alim : unsigned_abs view.alim ≤ 2 ^ 25
  pub first : AreModerate view.first
  pub later : AreModerate view.later

-- So are the numbers of own side: ALIM is less than 2^15 ft, and the level and the thresholds are those of a table.
pub record IsOwnSide (own : OwnSide) : Type 0 where
  pub rows : AreRows own.aircraft
  pub alim : unsigned_abs own.aircraft.level.alim ≤ 2 ^ 25

-- And all that is seen.
pub record IsSeen (seen : Seen) : Type 0 where
  pub own : IsOwnSide seen.own
  pub motion : IfSome seen.motion IsMotion
  pub view : IsModerate seen.view
