-- What is wrong with a record after those before it.
use Rattle.std.specs.Prelude.{ℕ, ◌==◌, ◌&&◌, ◌||◌, not, nat_le, nat_lt, if◌then◌else◌, Bool, false, List, length, Option, Some, None, is_none, is_some, slice_get, count_ones}
use Rattle.std.specs.List.{list_any}
use Rattle.std.specs.Option.{option_map_or}
use Rattle.std.specs.Str.{bytes_eq}
use Rattle.acas_base.specs.Encounter.{is_active, most_crafts}
use Rattle.acas_base.specs.Order.{fate_below, leg_below, miss_below, plan_below}
use Rattle.acas_base.specs.declared.craft.CraftSpec.{CraftSpec}
use Rattle.acas_base.specs.declared.label.Call.{Call}
use Rattle.acas_base.specs.declared.link.CopyPlan.{CopyPlan}
use Rattle.flight.specs.Inside.{stays_inside}
use Rattle.enc_file.specs.Earlier.{calls_of, crafts_of, encounter_by, fate_by, fate_group, fates_of, for_index, for_pair, gains_of, heading_of, index_of, leg_by, leg_group, legs_of, miss_by, miss_group, misses_of, pair_number, plan_by, plan_group, plans_of, run_of, version_of}
use Rattle.enc_file.specs.declared.record.Record.{Record}
use Rattle.enc_file.specs.declared.record.Record.TheVariants as said
use Rattle.enc_file.specs.declared.refusal.Code.{Code}
use Rattle.enc_file.specs.declared.refusal.Code.TheVariants as code

-- The result of a test of the aircraft that a record names. It is false where these aircraft weren't given.
abbrev pub holds : Option Bool → Bool
holds None = false
holds (Some b) = b

abbrev pub has_ceiling : List CraftSpec → ℕ → Bool
has_ceiling crafts i = option_map_or (λ (craft : CraftSpec). is_some craft.ceiling) (slice_get crafts i) false

-- An aircraft has a call sign, and a call sign is one of an aircraft.
abbrev pub has_call : List Call → ℕ → Bool
has_call calls i = list_any (λ (call : Call). call.craft == i) calls

abbrev pub is_called : List Call → List ℕ → Bool
is_called calls sign = list_any (λ (call : Call). bytes_eq call.sign sign) calls

-- Some earlier record of its group doesn't stand before it.
abbrev pub comes_late : {X : Type 0} → (X → ℕ) → (X → X → Bool) → List X → X → Bool
comes_late group below earlier x = list_any (λ last. group last == group x && not (below last x)) earlier

-- The record gives what was given before, or it doesn't come after what was given before.
abbrev pub repeats : List Record → Record → Bool
repeats earlier (said.Header version) = false
repeats earlier (said.Profile profile) = is_some (heading_of earlier).profile
repeats earlier (said.Name text) = is_some (heading_of earlier).name
repeats earlier (said.Clock second) = is_some (heading_of earlier).clock
repeats earlier (said.Call address sign) = holds (for_index (crafts_of earlier) address (has_call (calls_of earlier))) || is_called (calls_of earlier) sign
repeats earlier (said.Run run) = is_some (run_of earlier)
repeats earlier (said.Gains gains) = is_some (gains_of earlier)
repeats earlier (said.Craft craft) = is_some (index_of (crafts_of earlier) craft.address)
repeats earlier (said.Climb address limit) = holds (for_index (crafts_of earlier) address (has_ceiling (crafts_of earlier)))
repeats earlier (said.Leg address course) = holds (for_index (crafts_of earlier) address (λ craft. comes_late leg_group leg_below (legs_of earlier) (leg_by course craft)))
repeats earlier (said.Miss pair from to) = holds (for_pair (crafts_of earlier) pair (λ own target. comes_late miss_group miss_below (misses_of earlier) (miss_by from to own target)))
repeats earlier (said.Plan pair copies) = holds (for_pair (crafts_of earlier) pair (λ sender receiver. comes_late plan_group plan_below (plans_of earlier) (plan_by copies sender receiver)))
repeats earlier (said.Fate pair number copies) = holds (for_pair (crafts_of earlier) pair (λ sender receiver. comes_late fate_group fate_below (fates_of earlier) (fate_by number copies sender receiver)))
repeats earlier said.End = false

-- It names an aircraft that wasn't given, or one aircraft twice.
abbrev pub names_unknown : List Record → Record → Bool
names_unknown earlier (said.Call address sign) = is_none (index_of (crafts_of earlier) address)
names_unknown earlier (said.Climb address limit) = is_none (index_of (crafts_of earlier) address)
names_unknown earlier (said.Leg address course) = is_none (index_of (crafts_of earlier) address)
names_unknown earlier (said.Miss pair from to) = is_none (for_pair (crafts_of earlier) pair pair_number)
names_unknown earlier (said.Plan pair copies) = is_none (for_pair (crafts_of earlier) pair pair_number)
names_unknown earlier (said.Fate pair number copies) = is_none (for_pair (crafts_of earlier) pair pair_number)
names_unknown earlier other = false

-- Format 3 needs a profile.
abbrev pub lacks_profile : List Record → Bool
lacks_profile earlier = nat_le 3 (version_of earlier) && is_none (heading_of earlier).profile

-- There are too many aircraft; at the end, there is no run, or no profile where it is needed, or nobody is active.
abbrev pub miscounts : List Record → Record → Bool
miscounts earlier (said.Craft craft) = nat_le (most_crafts (version_of earlier)) (length (crafts_of earlier))
miscounts earlier said.End = is_none (run_of earlier) || (lacks_profile earlier || not (list_any is_active (crafts_of earlier)))
miscounts earlier other = false

-- At the end, an aircraft isn't in the box in some cycle of the run.
abbrev pub leaves_box : List Record → Record → Bool
leaves_box earlier said.End = not (stays_inside (encounter_by earlier))
leaves_box earlier other = false

-- A mask flips more than three bits.
abbrev pub is_mask_bad : CopyPlan → Bool
is_mask_bad copy = nat_lt 3 (count_ones copy.mask)

abbrev pub are_masks_bad : CopyPlan → CopyPlan → CopyPlan → Bool
are_masks_bad first second third = is_mask_bad first || (is_mask_bad second || is_mask_bad third)

abbrev pub has_bad_mask : Record → Bool
has_bad_mask (said.Plan pair copies) = are_masks_bad copies.first copies.second copies.third
has_bad_mask (said.Fate pair number copies) = are_masks_bad copies.first copies.second copies.third
has_bad_mask other = false

-- The code of what is wrong. Of several codes it is the lowest.
abbrev pub fault_of : List Record → Record → Option Code
fault_of earlier now =
    if repeats earlier now then Some code.Repeat else
    if names_unknown earlier now then Some code.Unknown else
    if miscounts earlier now then Some code.Count else
    if leaves_box earlier now then Some code.Box else
    if has_bad_mask now then Some code.Mask else None
