-- What the reader keeps of the records so far.
use Rattle.std.specs.Prelude.{◌≡◌, ◌≤◌, ℕ, ◌+◌, ◌*◌, true, false, List, ◌∷◌, length, map, Option, Some, Result, Ok, Err, IsOk, MatchOption, MatchResult}
use Rattle.std.specs.List.{range_with_len}
use Rattle.std.specs.Result.{IsErrAnd}
use Rattle.acas_base.specs.Encounter.{Parts}
use Rattle.acas_base.specs.declared.TheConstants.{CRAFTS}
use Rattle.enc_file.specs.Earlier.{calls_of, crafts_of, encounter_by, fate_group, fates_of, gains_of, has_ended, heading_of, in_group, leg_group, legs_of, miss_group, misses_of, plan_group, plans_of, run_of, version_of}
use Rattle.enc_file.specs.Faults.{fault_of, miscounts}
use Rattle.enc_file.specs.Reading.{next_record, refusal_after}
use Rattle.enc_file.specs.WellRead.{AreRead}
use Rattle.enc_file.specs.declared.record.Record.{Record}
use Rattle.enc_file.specs.declared.record.Record.TheVariants.{End}
use Rattle.enc_file.specs.declared.refusal.Code.{Code}
use Rattle.enc_file.specs.declared.refusal.ReadError.{ReadError}
use Rattle.enc_file.specs.declared.refusal.ReadError.TheVariants.{Refused, OutOfMemory}
use Rattle.enc_file.specs.declared.tables.Tables.{Tables}

-- All groups of a list.
abbrev pub grouped : {X : Type 0} → (X → ℕ) → ℕ → List X → List (List X)
grouped group groups xs = map (in_group group xs) (range_with_len 0 groups)

-- The encounter is made once the end was read, and not before.
abbrev pub IsMade : List Record → Option Parts → Type 0
IsMade earlier made = MatchOption made (has_ended earlier ≡ false) (λ e. (has_ended earlier ≡ true) × (e ≡ encounter_by earlier))

-- The tables hold what these records give.
pub record Holds (earlier : List Record) (tables : Tables) : Type 0 where
  pub read : AreRead earlier
  pub count : tables.count ≡ length earlier
  pub version : tables.version ≡ version_of earlier
  pub heading : tables.heading ≡ heading_of earlier
  pub run : tables.run ≡ run_of earlier
  pub gains : tables.gains ≡ gains_of earlier
  pub crafts : tables.crafts.items ≡ crafts_of earlier
  pub calls : tables.calls.items ≡ calls_of earlier
  pub legs : tables.legs ≡ grouped leg_group CRAFTS (legs_of earlier)
  pub misses : tables.misses ≡ grouped miss_group (CRAFTS * CRAFTS) (misses_of earlier)
  pub plans : tables.plans ≡ grouped plan_group (CRAFTS * CRAFTS) (plans_of earlier)
  pub fates : tables.fates ≡ grouped fate_group (CRAFTS * CRAFTS) (fates_of earlier)
  pub made : IsMade earlier tables.made

-- The encounter that the records so far say. There is none where they give no run, no profile that is needed, or no
-- active aircraft.
abbrev pub IsSoFar : List Record → Option Parts → Type 0
IsSoFar earlier made = MatchOption made (miscounts earlier End ≡ true) (λ e. (miscounts earlier End ≡ false) × (e ≡ encounter_by earlier))

-- The tables hold what some records give.
pub record IsHeld (tables : Tables) : Type 0 where
  pub earlier : List Record
  pub holds : Holds earlier tables

-- Records after the header, before the end.
pub record AreGoing (earlier : List Record) : Type 0 where
  pub some : 1 ≤ length earlier
  pub unended : has_ended earlier ≡ false

-- The record after the first `count` ones is refused with a code for which P holds. Memory may be wanting at any time.
abbrev pub Refuses : ℕ → (Code → Type 0) → ReadError → Type 0
Refuses count P (Refused refusal) = (why : Code) × P why × (refusal ≡ refusal_after count why)
Refuses count P OutOfMemory = Unit {0}

-- The record was added, or it is refused.
abbrev pub Adds : {T : Type 0} → List Record → Record → Tables → Result T ReadError → Type 0
Adds earlier now tables result = MatchResult result (λ _. Holds (now ∷ earlier) tables) (Refuses (length earlier) (λ why. fault_of earlier now ≡ Some why))

-- The record that these fields say was added, or it is refused.
abbrev pub Takes : {T : Type 0} → List Record → List (List ℕ) → Tables → Result T ReadError → Type 0
Takes earlier fields tables result =
    MatchResult result (λ _. (now : Record) × (next_record earlier fields ≡ Ok now) × Holds (now ∷ earlier) tables) (Refuses (length earlier) (λ why. next_record earlier fields ≡ Err why))

-- The next record was counted, or it is refused for this fault.
abbrev pub Settles : {T : Type 0} → Tables → Option Code → Tables → Result T ReadError → Type 0
Settles old fault new result =
    MatchOption fault (IsOk result × (new ≡ record old { count = old.count + 1 })) (λ why. IsErrAnd result (λ e. e ≡ Refused (refusal_after old.count why)) × (new ≡ old))
