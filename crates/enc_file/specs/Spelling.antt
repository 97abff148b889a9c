-- The records of an encounter's canonical text, each as its fields.
use Rattle.std.specs.Prelude.{ℕ, ℤ, pos, if◌then◌else◌, nat_le, List, [], ◌∷◌, take, codes, Option, Some, None}
use Rattle.std.specs.Fmt.{signed_decimal}
use Rattle.std.specs.List.{flat_map}
use Rattle.acas_base.specs.Encounter.{address_in}
use Rattle.acas_base.specs.declared.craft.CraftSpec.{CraftSpec}
use Rattle.acas_base.specs.declared.craft.Gains.{Gains}
use Rattle.acas_base.specs.declared.craft.Kind.{Kind}
use Rattle.acas_base.specs.declared.craft.Kind.TheVariants.{Ra, Ta, Xpdr}
use Rattle.acas_base.specs.declared.craft.Leg.{Leg}
use Rattle.acas_base.specs.declared.craft.Miss.{Miss}
use Rattle.acas_base.specs.declared.label.Call.{Call}
use Rattle.acas_base.specs.declared.link.CopyPlan.{CopyPlan}
use Rattle.acas_base.specs.declared.link.Fate.{Fate}
use Rattle.acas_base.specs.declared.link.LinkPlan.{LinkPlan}
use Rattle.acas_base.specs.declared.setting.Profile.{Profile}
use Rattle.acas_base.specs.declared.setting.Profile.TheVariants.{One, Two}
use Rattle.acas_text.specs.Hex.{hex}
use Rattle.plot_axes.specs.Clock.{clock_text}
pub use Rattle.acas_lines.specs.Lines.{line_of}

-- A number that is at least 0.
abbrev pub number : ℕ → List ℕ
number n = signed_decimal (pos n)

-- An address has six digits.
abbrev pub address : ℕ → List ℕ
address n = hex 6 n

abbrev pub kind_text : Kind → List ℕ
kind_text Ra = codes "RA"
kind_text Ta = codes "TA"
kind_text Xpdr = codes "XPDR"

-- The address of the aircraft at an index. In an encounter each index of a record is that of an aircraft.
abbrev pub address_at : List CraftSpec → ℕ → List ℕ
address_at crafts i = address (address_in crafts i)

-- The first record: the version of the format.
abbrev pub header_record : ℕ → List (List ℕ)
header_record version = codes "encounter" ∷ number version ∷ []

-- The profile, which format 3 alone says.
abbrev pub profile_text : Profile → List ℕ
profile_text One = codes "1"
profile_text Two = codes "2"

abbrev pub profile_record : Profile → List (List ℕ)
profile_record profile = codes "profile" ∷ profile_text profile ∷ []

abbrev pub profile_records : ℕ → Profile → List (List (List ℕ))
profile_records version profile = if nat_le 3 version then profile_record profile ∷ [] else []

-- The name, if there is one.
abbrev pub name_record : List ℕ → List (List ℕ)
name_record text = codes "name" ∷ text ∷ []

abbrev pub name_records : Option (List ℕ) → List (List (List ℕ))
name_records None = []
name_records (Some text) = name_record text ∷ []

-- The time of day in cycle 1, if it is given.
abbrev pub clock_record : ℕ → List (List ℕ)
clock_record second = codes "clock" ∷ clock_text second ∷ []

abbrev pub clock_records : Option ℕ → List (List (List ℕ))
clock_records None = []
clock_records (Some second) = clock_record second ∷ []

abbrev pub run_record : ℕ → ℤ → List (List ℕ)
run_record cycles elevation = codes "run" ∷ number cycles ∷ signed_decimal elevation ∷ []

-- The gains of the range tracks, and those of the altitude tracks.
abbrev pub gains_record : Gains → Gains → List (List ℕ)
gains_record range altitude = codes "gains" ∷ number range.alpha ∷ number range.beta ∷ number altitude.alpha ∷ number altitude.beta ∷ []

abbrev pub craft_record : CraftSpec → List (List ℕ)
craft_record craft = codes "craft" ∷ address craft.address ∷ kind_text craft.kind ∷ signed_decimal craft.x ∷ signed_decimal craft.y ∷ signed_decimal craft.alt ∷ []

-- The record of an aircraft's ceiling. An aircraft has one if it has a ceiling.
abbrev pub climb_record : ℕ → ℤ → List (List ℕ)
climb_record n limit = codes "climb" ∷ address n ∷ signed_decimal limit ∷ []

abbrev pub climb_of : ℕ → Option ℤ → List (List (List ℕ))
climb_of n None = []
climb_of n (Some limit) = climb_record n limit ∷ []

abbrev pub climb_records : CraftSpec → List (List (List ℕ))
climb_records craft = climb_of craft.address craft.ceiling

-- The call sign of an aircraft.
abbrev pub call_fields : ℕ → List ℕ → List (List ℕ)
call_fields n sign = codes "call" ∷ address n ∷ sign ∷ []

abbrev pub call_record : List CraftSpec → Call → List (List ℕ)
call_record crafts call = call_fields (address_in crafts call.craft) call.sign

-- A leg of the aircraft with an address.
abbrev pub leg_fields : ℕ → Leg → List (List ℕ)
leg_fields n leg = codes "leg" ∷ address n ∷ number leg.from ∷ signed_decimal leg.vx ∷ signed_decimal leg.vy ∷ signed_decimal leg.vz ∷ []

abbrev pub leg_record : List CraftSpec → Leg → List (List ℕ)
leg_record crafts leg = leg_fields (address_in crafts leg.craft) leg

abbrev pub miss_record : List CraftSpec → Miss → List (List ℕ)
miss_record crafts miss = codes "miss" ∷ address_at crafts miss.own ∷ address_at crafts miss.target ∷ number miss.from ∷ number miss.to ∷ []

-- A copy: for how many commits it is held back, and the mask of its damage in two digits.
abbrev pub copy_fields : CopyPlan → List (List ℕ)
copy_fields copy = number copy.hold ∷ hex 2 copy.mask ∷ []

-- The fields of the first `copies` copies.
abbrev pub copies_fields : ℕ → CopyPlan → CopyPlan → CopyPlan → List (List ℕ)
copies_fields copies first second third = flat_map copy_fields (take copies (first ∷ second ∷ third ∷ []))

abbrev pub plan_record : List CraftSpec → LinkPlan → List (List ℕ)
plan_record crafts plan = codes "plan" ∷ address_at crafts plan.sender ∷ address_at crafts plan.receiver ∷ copies_fields plan.copies plan.first plan.second plan.third

abbrev pub fate_record : List CraftSpec → Fate → List (List ℕ)
fate_record crafts fate = codes "fate" ∷ address_at crafts fate.sender ∷ address_at crafts fate.receiver ∷ number fate.number ∷ copies_fields fate.copies fate.first fate.second fate.third

abbrev pub end_record : List (List ℕ)
end_record = codes "end" ∷ []
