-- What the earlier records of a text give. In a list of records the newest stands first. The lists made from them stand
-- in the order of the text.
use Rattle.std.specs.Prelude.{ℕ, ◌+◌, ◌*◌, ◌==◌, if◌then◌else◌, Bool, true, false, ℤ, pos, List, [], ◌∷◌, ◌++◌, map, filter, Option, Some, None, option_map, unwrap_or}
use Rattle.std.specs.List.{flat_map, position, range_with_len}
use Rattle.std.specs.Option.{option_and_then, option_to_list}
use Rattle.acas_base.specs.Encounter.{Parts, encounter_of, usual_altitude_gains, usual_range_gains}
use Rattle.acas_base.specs.declared.TheConstants.{CRAFTS}
use Rattle.acas_base.specs.declared.craft.CraftSpec.{CraftSpec}
use Rattle.acas_base.specs.declared.craft.Leg.{Leg}
use Rattle.acas_base.specs.declared.craft.Miss.{Miss}
use Rattle.acas_base.specs.declared.label.Call.{Call}
use Rattle.acas_base.specs.declared.link.Fate.{Fate}
use Rattle.acas_base.specs.declared.link.LinkPlan.{LinkPlan}
use Rattle.acas_base.specs.declared.setting.Profile.TheVariants.{One}
use Rattle.acas_base.specs.declared.setting.Setting.{Setting}
use Rattle.enc_file.specs.declared.record.Addresses.{Addresses}
use Rattle.enc_file.specs.declared.record.Copies.{Copies}
use Rattle.enc_file.specs.declared.record.Course.{Course}
use Rattle.enc_file.specs.declared.record.Heading.{Heading}
use Rattle.enc_file.specs.declared.record.Record.{Record}
use Rattle.enc_file.specs.declared.record.Record.TheVariants as said
use Rattle.enc_file.specs.declared.record.Run.{Run}
use Rattle.enc_file.specs.declared.record.TrackGains.{TrackGains}

-- The version of the format; 0 before the header.
abbrev pub version_of : List Record → ℕ
version_of [] = 0
version_of (said.Header version ∷ earlier) = version
version_of (other ∷ earlier) = version_of earlier

-- What a text says of itself.
abbrev pub no_heading : Heading
no_heading = record { profile = None; name = None; clock = None }

abbrev pub heading_of : List Record → Heading
heading_of [] = no_heading
heading_of (said.Profile profile ∷ earlier) = record (heading_of earlier) { profile = Some profile }
heading_of (said.Name text ∷ earlier) = record (heading_of earlier) { name = Some text }
heading_of (said.Clock second ∷ earlier) = record (heading_of earlier) { clock = Some second }
heading_of (other ∷ earlier) = heading_of earlier

abbrev pub run_of : List Record → Option Run
run_of [] = None
run_of (said.Run run ∷ earlier) = Some run
run_of (other ∷ earlier) = run_of earlier

abbrev pub gains_of : List Record → Option TrackGains
gains_of [] = None
gains_of (said.Gains gains ∷ earlier) = Some gains
gains_of (other ∷ earlier) = gains_of earlier

abbrev pub has_ended : List Record → Bool
has_ended [] = false
has_ended (said.End ∷ earlier) = true
has_ended (other ∷ earlier) = has_ended earlier

-- An aircraft gets this ceiling where it has this address.
abbrev pub with_ceiling : ℕ → ℤ → CraftSpec → CraftSpec
with_ceiling address limit craft = if craft.address == address then record craft { ceiling = Some limit } else craft

-- The aircraft, each with its ceiling.
abbrev pub crafts_of : List Record → List CraftSpec
crafts_of [] = []
crafts_of (said.Craft craft ∷ earlier) = crafts_of earlier ++ craft ∷ []
crafts_of (said.Climb address limit ∷ earlier) = map (with_ceiling address limit) (crafts_of earlier)
crafts_of (other ∷ earlier) = crafts_of earlier

-- The index of the aircraft with an address.
abbrev pub index_of : List CraftSpec → ℕ → Option ℕ
index_of crafts address = position (λ (craft : CraftSpec). craft.address == address) crafts

-- What a function of an index gives for the aircraft with an address.
abbrev pub for_index : {X : Type 0} → List CraftSpec → ℕ → (ℕ → X) → Option X
for_index crafts address f = option_map f (index_of crafts address)

-- What a function of two indices gives for two different aircraft with these addresses.
abbrev pub for_pair : {X : Type 0} → List CraftSpec → Addresses → (ℕ → ℕ → X) → Option X
for_pair crafts pair f =
    if pair.first == pair.second then None else
    option_and_then (λ first. option_map (λ second. f first second) (index_of crafts pair.second)) (index_of crafts pair.first)

abbrev pub call_by : List ℕ → ℕ → Call
call_by sign craft = record { craft = craft; sign = sign }

abbrev pub leg_by : Course → ℕ → Leg
leg_by course craft = record { craft = craft; from = course.from; vx = course.vx; vy = course.vy; vz = course.vz }

abbrev pub miss_by : ℕ → ℕ → ℕ → ℕ → Miss
miss_by from to own target = record { own = own; target = target; from = from; to = to }

abbrev pub plan_by : Copies → ℕ → ℕ → LinkPlan
plan_by copies sender receiver = record {
  sender = sender;
  receiver = receiver;
  copies = copies.count;
  first = copies.first;
  second = copies.second;
  third = copies.third;
}

abbrev pub fate_by : ℕ → Copies → ℕ → ℕ → Fate
fate_by number copies sender receiver = record {
  sender = sender;
  receiver = receiver;
  number = number;
  copies = copies.count;
  first = copies.first;
  second = copies.second;
  third = copies.third;
}

-- The call signs, legs, misses, plans and fates, in the order of the text. They name aircraft by their indices.
abbrev pub calls_of : List Record → List Call
calls_of [] = []
calls_of (said.Call address sign ∷ earlier) = calls_of earlier ++ option_to_list (for_index (crafts_of earlier) address (call_by sign))
calls_of (other ∷ earlier) = calls_of earlier

abbrev pub legs_of : List Record → List Leg
legs_of [] = []
legs_of (said.Leg address course ∷ earlier) = legs_of earlier ++ option_to_list (for_index (crafts_of earlier) address (leg_by course))
legs_of (other ∷ earlier) = legs_of earlier

abbrev pub misses_of : List Record → List Miss
misses_of [] = []
misses_of (said.Miss pair from to ∷ earlier) = misses_of earlier ++ option_to_list (for_pair (crafts_of earlier) pair (miss_by from to))
misses_of (other ∷ earlier) = misses_of earlier

abbrev pub plans_of : List Record → List LinkPlan
plans_of [] = []
plans_of (said.Plan pair copies ∷ earlier) = plans_of earlier ++ option_to_list (for_pair (crafts_of earlier) pair (plan_by copies))
plans_of (other ∷ earlier) = plans_of earlier

abbrev pub fates_of : List Record → List Fate
fates_of [] = []
fates_of (said.Fate pair number copies ∷ earlier) = fates_of earlier ++ option_to_list (for_pair (crafts_of earlier) pair (fate_by number copies))
fates_of (other ∷ earlier) = fates_of earlier

-- The number of an ordered pair of aircraft. Pairs are ordered by the first index, then by the second.
abbrev pub pair_number : ℕ → ℕ → ℕ
pair_number first second = first * CRAFTS + second

abbrev pub call_group : Call → ℕ
call_group call = call.craft

abbrev pub leg_group : Leg → ℕ
leg_group leg = leg.craft

abbrev pub miss_group : Miss → ℕ
miss_group miss = pair_number miss.own miss.target

abbrev pub plan_group : LinkPlan → ℕ
plan_group plan = pair_number plan.sender plan.receiver

abbrev pub fate_group : Fate → ℕ
fate_group fate = pair_number fate.sender fate.receiver

-- The members of a group, in the order of the text.
abbrev pub in_group : {X : Type 0} → (X → ℕ) → List X → ℕ → List X
in_group group xs n = filter (λ x. group x == n) xs

-- All members, group by group. This is the order of the canonical text.
abbrev pub by_group : {X : Type 0} → (X → ℕ) → ℕ → List X → List X
by_group group groups xs = flat_map (in_group group xs) (range_with_len 0 groups)

-- The gains of a text that gives none.
abbrev pub usual_gains : TrackGains
usual_gains = record { range = usual_range_gains; altitude = usual_altitude_gains }

abbrev pub all_gains : List Record → TrackGains
all_gains earlier = unwrap_or (gains_of earlier) usual_gains

abbrev pub whole_run : List Record → Run
whole_run earlier = unwrap_or (run_of earlier) (record { cycles = 0; elevation = pos 0 })

-- The setting of a text. Where it gives no profile, it has profile 1: formats 1 and 2 have no record for it.
abbrev pub setting_by : ℕ → Heading → Run → TrackGains → Setting
setting_by version heading run gains = record {
  version = version;
  profile = unwrap_or heading.profile One;
  cycles = run.cycles;
  elevation = run.elevation;
  range = gains.range;
  altitude = gains.altitude;
  name = heading.name;
  clock = heading.clock;
}

-- The encounter that these records say.
abbrev pub encounter_by : List Record → Parts
encounter_by earlier =
    encounter_of (setting_by (version_of earlier) (heading_of earlier) (whole_run earlier) (all_gains earlier)) (by_group call_group CRAFTS (calls_of earlier)) (crafts_of earlier)
    (by_group leg_group CRAFTS (legs_of earlier)) (by_group miss_group (CRAFTS * CRAFTS) (misses_of earlier))
    (by_group plan_group (CRAFTS * CRAFTS) (plans_of earlier)) (by_group fate_group (CRAFTS * CRAFTS) (fates_of earlier))
