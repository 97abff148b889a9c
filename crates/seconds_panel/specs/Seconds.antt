-- The seconds that the tests of own aircraft need, cycle by cycle.
use Rattle.std.specs.Prelude.{◌≡◌, ℕ, ◌+◌, ◌-◌, ◌≤◌, Bool, ◌&&◌, is_some, List, slice_index_or, Option, Some, None, option_map}
use Rattle.std.specs.Option.{option_and_then}
use Rattle.acas_base.specs.Encounter.{Parts}
use Rattle.craft_view.specs.KnownTracks.{motion_of, own_track, tracks_of}
use Rattle.craft_view.specs.Own.{own_of}
use Rattle.craft_view.specs.Sight.{sight_of}
use Rattle.craft_view.specs.declared.motion.Motion.{Motion}
use Rattle.equal_rows.specs.Rows.{rows_of}
use Rattle.equal_rows.specs.declared.row.Row.{Row}
use Rattle.seconds_panel.specs.declared.own.TestedPair.{TestedPair}
use Rattle.seconds_panel.specs.declared.series.Series.{Series}
use Rattle.seconds_panel.specs.declared.series.Series.TheVariants.{TrafficRange, ResolutionRange, ResolutionAltitude, TrafficTau, ResolutionTau}
use Rattle.test_seconds.specs.Pair.{pair_seconds}
use Rattle.test_seconds.specs.declared.pair.PairSeconds.{PairSeconds}
use Rattle.test_seconds.specs.declared.pair.TestSeconds.{TestSeconds}

-- What the tracks of own aircraft say of the other one in a cycle. It is none where the pair isn't tested.
abbrev pub motion_in : Parts → TestedPair → ℕ → Option Motion
motion_in e pair cycle = motion_of (own_track (sight_of e pair.own cycle)) (tracks_of (sight_of e pair.own cycle) pair.other)

-- What the tests need in a cycle, with the thresholds of own aircraft.
unfoldable pub seconds_in : Parts → TestedPair → ℕ → Option PairSeconds
seconds_in e pair cycle = option_map (pair_seconds (own_of (sight_of e pair.own cycle))) (motion_in e pair cycle)

-- What a line tells of that.
abbrev pub told_of : Series → PairSeconds → Option ℕ
told_of TrafficRange seconds = seconds.ta.range
told_of ResolutionRange seconds = option_and_then (λ (needs : TestSeconds). needs.range) seconds.ra
told_of ResolutionAltitude seconds = option_and_then (λ (needs : TestSeconds). needs.altitude) seconds.ra
told_of TrafficTau seconds = Some seconds.ta.tau
told_of ResolutionTau seconds = option_map (λ (needs : TestSeconds). needs.tau) seconds.ra

-- What a line tells in a cycle, in s; none where it tells nothing.
unfoldable pub value_in : Parts → TestedPair → Series → ℕ → Option ℕ
value_in e pair series cycle = option_and_then (told_of series) (seconds_in e pair cycle)

abbrev pub is_told : Parts → TestedPair → Series → ℕ → Bool
is_told e pair series cycle = is_some (value_in e pair series cycle)

-- It tells something in this cycle and in the next one.
abbrev pub goes_on : Parts → TestedPair → Series → ℕ → Bool
goes_on e pair series cycle = is_told e pair series cycle && is_told e pair series (cycle + 1)

-- The rows of cycles in which a line tells something, in order.
abbrev pub told_rows : Parts → TestedPair → Series → List Row
told_rows e pair series = rows_of (is_told e pair series) (goes_on e pair series) e.cycles

-- ---- what is kept of a run

pub record TestedRun : Type 0 where
  pub encounter : Parts
  pub pair : TestedPair

-- A list has what the tests need in each of the first cycles, at its place.
abbrev pub AreSeconds : Parts → TestedPair → ℕ → List (Option PairSeconds) → Type 0
AreSeconds e pair cycles list = (cycle : ℕ) → 1 ≤ cycle → cycle ≤ cycles → slice_index_or list (cycle - 1) None ≡ seconds_in e pair cycle
