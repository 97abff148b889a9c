-- What an encounter is.
use Rattle.std.specs.Prelude.{◌≡◌, ◌≢◌, ℕ, ◌<◌, ◌≤◌, ◌==◌, if◌then◌else◌, Bool, true, false, IsTrue, ℤ, pos, neg_ℤ, List, [], All, AllPairs, length, Option, None, IfSome, count_ones, slice_get}
use Rattle.std.specs.List.{list_any}
use Rattle.std.specs.Option.{option_map_or}
use Rattle.acas_base.specs.Labels.{is_call_sign, is_label}
use Rattle.acas_base.specs.Ranges.{IsAddress, IsBetween, IsCycle, IsWithin}
use Rattle.acas_base.specs.Order.{IsRising, call_below, leg_below, miss_below, plan_below, fate_below}
use Rattle.acas_base.specs.declared.TheConstants.{CRAFTS}
use Rattle.acas_base.specs.declared.craft.CraftSpec.{CraftSpec}
use Rattle.acas_base.specs.declared.craft.Gains.{Gains}
use Rattle.acas_base.specs.declared.craft.Kind.{Kind}
use Rattle.acas_base.specs.declared.craft.Kind.TheVariants.{Ra, Ta, Xpdr}
use Rattle.acas_base.specs.declared.craft.Leg.{Leg}
use Rattle.acas_base.specs.declared.craft.Miss.{Miss}
use Rattle.acas_base.specs.declared.label.Call.{Call}
use Rattle.acas_base.specs.declared.link.CopyPlan.{CopyPlan}
use Rattle.acas_base.specs.declared.link.Fate.{Fate}
use Rattle.acas_base.specs.declared.link.LinkPlan.{LinkPlan}
use Rattle.acas_base.specs.declared.setting.Profile.{Profile}
use Rattle.acas_base.specs.declared.setting.Profile.TheVariants as profile
use Rattle.acas_base.specs.declared.setting.Setting.{Setting}

-- The parts of an encounter: the version of its format, its profile, how many cycles it has, the elevation of the
-- ground in ft, the gains of the range tracks and of the altitude tracks, its name, the time of day in cycle 1 in seconds
-- after midnight, and six lists.
pub record Parts : Type 0 where
  pub version : ℕ
  pub profile : Profile
  pub cycles : ℕ
  pub elevation : ℤ
  pub range : Gains
  pub altitude : Gains
  pub name : Option (List ℕ)
  pub clock : Option ℕ
  pub calls : List Call
  pub crafts : List CraftSpec
  pub legs : List Leg
  pub misses : List Miss
  pub plans : List LinkPlan
  pub fates : List Fate

-- The encounter of a setting and these lists.
abbrev pub encounter_of : Setting → List Call → List CraftSpec → List Leg → List Miss → List LinkPlan → List Fate → Parts
encounter_of setting calls crafts legs misses plans fates = record {
  version = setting.version;
  profile = setting.profile;
  cycles = setting.cycles;
  elevation = setting.elevation;
  range = setting.range;
  altitude = setting.altitude;
  name = setting.name;
  clock = setting.clock;
  calls = calls;
  crafts = crafts;
  legs = legs;
  misses = misses;
  plans = plans;
  fates = fates;
}

-- The setting of an encounter.
abbrev pub setting_of : Parts → Setting
setting_of e = record {
  version = e.version;
  profile = e.profile;
  cycles = e.cycles;
  elevation = e.elevation;
  range = e.range;
  altitude = e.altitude;
  name = e.name;
  clock = e.clock;
}

-- The encounter without its labels: what it and its aircraft are called, and the time of day.
abbrev pub unlabelled : Parts → Parts
unlabelled e = record e { name = None; clock = None; calls = [] }

-- The address of the aircraft at an index.
abbrev pub address_in : List CraftSpec → ℕ → ℕ
address_in crafts index = option_map_or (λ (craft : CraftSpec). craft.address) (slice_get crafts index) 0

-- Format 1, 2 or 3.
abbrev pub IsVersion : ℕ → Type 0
IsVersion n = (1 ≤ n) × (n ≤ 3)

abbrev pub IsElevation : ℤ → Type 0
IsElevation n = IsBetween (neg_ℤ (pos 1000)) (pos 15000) n

-- An altitude of an aircraft, or a limit for one, in ft.
abbrev pub IsAltitude : ℤ → Type 0
IsAltitude n = IsBetween (neg_ℤ (pos 1000)) (pos 60000) n

abbrev pub IsGains : Gains → Type 0
IsGains g = (g.alpha ≤ 1024) × (g.beta ≤ 1024)

-- The gains of the range tracks and of the altitude tracks where an encounter gives none.
abbrev pub usual_range_gains : Gains
usual_range_gains = record { alpha = 683; beta = 256 }

abbrev pub usual_altitude_gains : Gains
usual_altitude_gains = record { alpha = 512; beta = 128 }

-- The kinds that advise.
abbrev pub is_active_kind : Kind → Bool
is_active_kind Ra = true
is_active_kind Ta = true
is_active_kind Xpdr = false

-- The kind that gives resolution advisories.
abbrev pub is_ra_kind : Kind → Bool
is_ra_kind Ra = true
is_ra_kind Ta = false
is_ra_kind Xpdr = false

-- A plain copy isn't held back, and no bit of it is flipped. Where a message has fewer than three copies, each place
-- past the copies has the plan of a plain copy.
abbrev pub plain_copy : CopyPlan
plain_copy = record { hold = 0; mask = 0 }

-- The most aircraft of a format.
abbrev pub most_crafts : ℕ → ℕ
most_crafts version = if version == 1 then 8 else CRAFTS

pub record IsCraft (craft : CraftSpec) : Type 0 where
  pub address : IsAddress craft.address
  pub x : IsWithin 1000000 craft.x
  pub y : IsWithin 1000000 craft.y
  pub alt : IsAltitude craft.alt
  pub ceiling : IfSome craft.ceiling IsAltitude

-- An active aircraft advises, and so makes entries of its own.
abbrev pub is_active : CraftSpec → Bool
is_active craft = is_active_kind craft.kind

-- There is an aircraft at the index, and it is active.
abbrev pub is_active_at : List CraftSpec → ℕ → Bool
is_active_at crafts craft = option_map_or is_active (slice_get crafts craft) false

-- Two aircraft of different addresses.
abbrev pub AreApart : CraftSpec → CraftSpec → Type 0
AreApart a b = a.address ≢ b.address

-- The rates of a leg are in their ranges.
pub record AreRates (leg : Leg) : Type 0 where
  pub vx : IsWithin 2000 leg.vx
  pub vy : IsWithin 2000 leg.vy
  pub vz : IsWithin 10000 leg.vz

-- A leg of one of `count` aircraft.
pub record IsLeg (count : ℕ) (leg : Leg) : Type 0 where
  pub craft : leg.craft < count
  pub from : IsCycle leg.from
  pub rates : AreRates leg

-- Two different indices of `count` aircraft.
pub record IsPair (count a b : ℕ) : Type 0 where
  pub first : a < count
  pub second : b < count
  pub apart : a ≢ b

-- The call sign of one of `count` aircraft.
pub record IsCall (count : ℕ) (call : Call) : Type 0 where
  pub craft : call.craft < count
  pub sign : IsTrue (is_call_sign call.sign)

pub record IsMiss (count : ℕ) (miss : Miss) : Type 0 where
  pub pair : IsPair count miss.own miss.target
  pub from : IsCycle miss.from
  pub to : IsCycle miss.to
  pub order : miss.from ≤ miss.to

-- The plan at a place, from 0. It holds back for at most 60 commits and flips at most three of eight bits. At a place
-- past the copies it is zero.
pub record IsCopy (place copies : ℕ) (plan : CopyPlan) : Type 0 where
  pub hold : plan.hold ≤ 60
  pub byte : plan.mask < 256
  pub mask : count_ones plan.mask ≤ 3
  pub unused : copies ≤ place → plan ≡ plain_copy

-- At most three copies.
pub record AreCopies (copies : ℕ) (one two three : CopyPlan) : Type 0 where
  pub few : copies ≤ 3
  pub first : IsCopy 0 copies one
  pub second : IsCopy 1 copies two
  pub third : IsCopy 2 copies three

pub record IsPlan (count : ℕ) (plan : LinkPlan) : Type 0 where
  pub pair : IsPair count plan.sender plan.receiver
  pub copies : AreCopies plan.copies plan.first plan.second plan.third

pub record IsFate (count : ℕ) (fate : Fate) : Type 0 where
  pub pair : IsPair count fate.sender fate.receiver
  pub number : IsCycle fate.number
  pub copies : AreCopies fate.copies fate.first fate.second fate.third

-- What a text of format 1 can say: no ceilings and no plans.
pub record IsPlain (crafts : List CraftSpec) (plans : List LinkPlan) : Type 0 where
  pub no_ceiling : All (λ (craft : CraftSpec). craft.ceiling ≡ None) crafts
  pub no_plan : plans ≡ []

-- What a text of formats 1 and 2 can say: profile 1, and no labels.
pub record IsUnlabelled (e : Parts) : Type 0 where
  pub profile : e.profile ≡ profile.One
  pub name : e.name ≡ None
  pub clock : e.clock ≡ None
  pub calls : e.calls ≡ []

-- The numbers of a run are in their ranges.
pub record IsRun (version cycles : ℕ) (elevation : ℤ) : Type 0 where
  pub format : IsVersion version
  pub length : IsCycle cycles
  pub terrain : IsElevation elevation

-- The aircraft: enough of them, and not too many for the format; each in its ranges; no two with one address; at least
-- one active.
pub record AreCrafts (version : ℕ) (crafts : List CraftSpec) : Type 0 where
  pub some : 1 ≤ length crafts
  pub few : length crafts ≤ most_crafts version
  pub ranges : All IsCraft crafts
  pub addresses : AllPairs AreApart crafts
  pub active : IsTrue (list_any is_active crafts)

-- Records that name aircraft among `count` ones, each in its ranges, and in their order.
abbrev pub AreListed : {X : Type 0} → (ℕ → X → Type 0) → (X → X → Bool) → ℕ → List X → Type 0
AreListed Fits below count xs = All (Fits count) xs × IsRising below xs

-- The four lists of records of an encounter with `count` aircraft.
pub record AreRecords (count : ℕ) (xs : List Leg) (ys : List Miss) (zs : List LinkPlan) (ws : List Fate) : Type 0 where
  pub legs : AreListed IsLeg leg_below count xs
  pub misses : AreListed IsMiss miss_below count ys
  pub plans : AreListed IsPlan plan_below count zs
  pub fates : AreListed IsFate fate_below count ws

-- Two aircraft of different call signs.
abbrev pub AreCalledApart : Call → Call → Type 0
AreCalledApart a b = a.sign ≢ b.sign

-- The labels of an encounter with `count` aircraft. No two aircraft have one call sign.
pub record AreLabels (count : ℕ) (title : Option (List ℕ)) (start : Option ℕ) (signs : List Call) : Type 0 where
  pub name : IfSome title (λ text. IsTrue (is_label text))
  pub clock : IfSome start (λ second. second < 86400)
  pub calls : AreListed IsCall call_below count signs
  pub apart : AllPairs AreCalledApart signs

-- These parts are an encounter.
pub record IsEncounter (e : Parts) : Type 0 where
  pub run : IsRun e.version e.cycles e.elevation
  pub range : IsGains e.range
  pub altitude : IsGains e.altitude
  pub crafts : AreCrafts e.version e.crafts
  pub format : e.version ≡ 1 → IsPlain e.crafts e.plans
  pub older : e.version ≤ 2 → IsUnlabelled e
  pub labels : AreLabels (length e.crafts) e.name e.clock e.calls
  pub records : AreRecords (length e.crafts) e.legs e.misses e.plans e.fates
