-- What is kept of an aircraft that flies with the modelled response.
use Rattle.std.specs.Prelude.{◌≡◌, ℕ, ◌+◌, ◌-◌, ◌*◌, ◌<◌, ◌≤◌, ◌^◌, unsigned_abs, Bool, ℤ, if◌then◌else◌, List, Option, Some, None, IfSome, length, option_map}
use Rattle.acas_base.specs.Encounter.{Parts}
use Rattle.acas_base.specs.declared.entry.Entry.{Entry}
use Rattle.advisory_report.specs.Phrases.{has_advice}
use Rattle.advisory_report.specs.declared.composite.Composite.{Composite}
use Rattle.air_journal.specs.Airs.{air_of}
use Rattle.air_rules.specs.Air.{is_ra}
use Rattle.flight.specs.Flight.{position}
use Rattle.response.specs.Flown.{Flight, changed, first_advised, flight_of, motion_since, moved_twice, response_to}
use Rattle.response.specs.declared.advice.Advised.{Advised}
use Rattle.response.specs.declared.motion.Motion.{Motion}

-- Which aircraft flies, of which encounter and journal, and how far it has come.
pub record Flying : Type 0 where
  pub encounter : Parts
  pub journal : List Entry
  pub own : ℕ
  pub cycle : ℕ

abbrev pub flying : Parts → List Entry → ℕ → ℕ → Flying
flying e journal own cycle = record { encounter = e; journal = journal; own = own; cycle = cycle }

abbrev pub flight_in : Flying → Flight
flight_in it = flight_of it.encounter it.journal it.own

-- What was advised in the cycles so far.
pub record IsAdvised (flight : Flight) (cycles : ℕ) (advised : Advised) : Type 0 where
  pub shown : advised.shown ≡ flight.shown cycles
  pub changed_is : advised.changed ≡ changed flight cycles
  pub before : advised.before ≡ flight.shown (changed flight cycles - 1)

-- An altitude of at most this size, and a rate that an aircraft can have.
pub record IsMotion (most : ℕ) (motion : Motion) : Type 0 where
  pub altitude : unsigned_abs motion.altitude ≤ most
  pub rate : unsigned_abs motion.rate ≤ 2 ^ 18

-- The motion at the beginning of a cycle; none where no cycle of so many had advice.
abbrev pub motion_at : Flight → ℕ → ℕ → Option Motion
motion_at flight cycle cycles = option_map (λ first. motion_since flight first (cycle - first)) (first_advised flight cycles)

-- An aircraft that flew as planned so far begins to respond where there is advice.
abbrev pub begun : Option Motion → Composite → ℤ → ℤ → Option Motion
begun None now altitude rate = if has_advice now then Some (record { altitude = altitude; rate = rate }) else None
begun (Some motion) now altitude rate = Some motion

-- The motion at the end of a cycle, by that at its beginning and what is advised in it.
abbrev pub responded : Advised → ℕ → ℤ → Motion → Motion
responded advised cycle rate motion = moved_twice advised.shown rate (response_to advised.before advised.shown) (cycle - advised.changed) motion

abbrev pub moved_on : Option Motion → Advised → ℕ → ℤ → ℤ → Option Motion
moved_on motion advised cycle altitude rate = option_map (responded advised cycle rate) (begun motion advised.shown altitude rate)

-- The greatest altitude in a cycle.
abbrev pub highest : ℕ → ℕ
highest cycle = 2 ^ 29 + cycle * 2 ^ 19

pub record IsFlier (it : Flying) (responds : Bool) (planned : ℤ) (advised : Advised) (motion : Option Motion) : Type 0 where
  pub own : it.own < length it.encounter.crafts
  pub begun : 1 ≤ it.cycle
  pub in_run : it.cycle ≤ it.encounter.cycles
  pub responds_is : responds ≡ is_ra (air_of it.encounter) it.own
  pub planned_is : planned ≡ (position it.encounter it.own it.cycle).z
  pub advised_is : IsAdvised (flight_in it) (it.cycle - 1) advised
  pub motion_is : motion ≡ motion_at (flight_in it) it.cycle (it.cycle - 1)
  pub near : unsigned_abs planned ≤ 9590000
  pub bounds : IfSome motion (IsMotion (highest it.cycle))
