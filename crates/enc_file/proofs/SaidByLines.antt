-- What the records of a canonical text say, each by itself.
use Rattle.std.proofs.Common.{◌≡◌, ℕ, zero, suc, ◌+◌, ◌<◌, ◌≤◌, ◌^◌, ◌&&◌, ◌++◌, true, false, ℤ, pos, negsuc, neg_ℤ, List, [], ◌∷◌, length, Some, None, Ok, option_map, refl, ap, ◌∙◌, arith, nat_le, nat_lt, get_or-append-add, length-append}
use Rattle.std.specs.Prelude.{unsigned_abs, codes}
use Rattle.std.specs.Fmt.{signed_decimal}
use Rattle.std.proofs.lemmas.Bool.Decides.{nat_tests}
use Rattle.std.proofs.lemmas.Int.{ints}
use Rattle.acas_base.specs.Encounter.{AreCopies, AreRates, IsAltitude, IsCraft, IsElevation, IsGains, IsVersion}
use Rattle.acas_base.specs.Labels.{is_call_sign, is_label}
use Rattle.acas_base.specs.Ranges.{IsAddress, IsBetween, IsCycle}
use Rattle.acas_base.specs.declared.craft.CraftSpec.{CraftSpec}
use Rattle.acas_base.specs.declared.craft.Gains.{Gains}
use Rattle.acas_base.specs.declared.craft.Kind.{Kind}
use Rattle.acas_base.specs.declared.craft.Kind.TheVariants.{Ra, Ta, Xpdr}
use Rattle.acas_base.specs.declared.craft.Leg.{Leg}
use Rattle.acas_base.specs.declared.link.CopyPlan.{CopyPlan}
use Rattle.acas_base.specs.declared.link.Fate.{Fate}
use Rattle.acas_base.specs.declared.link.LinkPlan.{LinkPlan}
use Rattle.acas_base.specs.declared.setting.Profile.{Profile}
use Rattle.acas_base.specs.declared.setting.Profile.TheVariants.{One, Two}
use Rattle.acas_text.specs.Hex.{hex}
use Rattle.enc_file.specs.Saying.{call_of, climb_of, clock_of, craft_of, end_of, fate_of, gains_of, header_of, leg_of, miss_of, name_of, plan_of, profile_of, record_of, run_of, version_in}
use Rattle.enc_file.specs.Spelling.{address, call_fields, climb_record, clock_record, copies_fields, craft_record, end_record, gains_record, header_record, kind_text, leg_fields, name_record, number, profile_record, run_record}
use Rattle.enc_file.specs.Values.{address_in, copies_count, copies_from, copy_in, count_in, field, kind_in, number_in}
use Rattle.enc_file.specs.declared.record.Copies.{Copies}
use Rattle.enc_file.specs.declared.record.Course.{Course}
use Rattle.enc_file.specs.declared.record.Record.TheVariants as said
use Rattle.enc_file.proofs.Clocked.{clock-is}
use Rattle.enc_file.proofs.Spelled.{address-is, mask-is, number-inside}

-- Fields.

small : (low high : ℕ) (n : ℤ) → low < 10 ^ 10 → high < 10 ^ 10 → IsBetween (neg_ℤ (pos low)) (pos high) n → unsigned_abs n < 10 ^ 10
small low high (pos k) a b h = omega (arith, ints, h.0, h.1)
small low high (negsuc k) a b h = omega (arith, ints, h.0, h.1)

number-is : (low high : ℕ) (n : ℤ) → low < 10 ^ 10 → high < 10 ^ 10 → IsBetween (neg_ℤ (pos low)) (pos high) n → number_in (neg_ℤ (pos low)) (pos high) (signed_decimal n) ≡ Some n
number-is low high n a b h = number-inside (neg_ℤ (pos low)) (pos high) n (signed_decimal n) (refl, small low high n a b h) h

count-is : (low high n : ℕ) → low ≤ n → n ≤ high → high < 10 ^ 10 → count_in low high (number n) ≡ Some n
unfolding count_in
count-is low high n a b h =
    let within : IsBetween (pos low) (pos high) (pos n) = (omega (arith, ints), omega (arith, ints)) in
    ap (option_map unsigned_abs) (number-inside (pos low) (pos high) (pos n) (number n) (refl, omega arith) within)

cycle-is : (n : ℕ) → IsCycle n → count_in 1 600 (number n) ≡ Some n
cycle-is n h = count-is 1 600 n h.0 h.1 (omega arith)

address-said : (n : ℕ) → IsAddress n → address_in (address n) ≡ Some n
address-said n h =
    let fits : (nat_le 1 n && nat_le n 16777214) ≡ true = grind (arith, h.0, h.1) in
    address-is n (address n) (omega (arith, h.1)) refl ∙ rw fits refl

kind-said : (kind : Kind) → kind_in (kind_text kind) ≡ Some kind
kind-said Ra = refl
kind-said Ta = refl
kind-said Xpdr = refl

-- Records.

from-format : (least version : ℕ) → least ≤ version → nat_le least version ≡ true
from-format least version h = grind (arith, h)

pub header-said : (version : ℕ) → IsVersion version → header_of (header_record version) ≡ Ok (said.Header version)
unfolding version_in
header-said version h = rw (count-is 1 3 version h.0 h.1 (omega arith)) refl

pub run-said : (version cycles : ℕ) (elevation : ℤ) → IsCycle cycles → IsElevation elevation
    → record_of version (run_record cycles elevation) ≡ Ok (said.Run (record { cycles = cycles; elevation = elevation }))
unfolding record_of run_of
run-said version cycles elevation h k = rw (cycle-is cycles h, number-is 1000 15000 elevation (omega arith) (omega arith) k) refl

abbrev pub course-of : Leg → Course
course-of leg = record { from = leg.from; vx = leg.vx; vy = leg.vy; vz = leg.vz }

pub leg-said : (version n : ℕ) (leg : Leg) → IsAddress n → IsCycle leg.from → AreRates leg → record_of version (leg_fields n leg) ≡ Ok (said.Leg n (course-of leg))
unfolding record_of leg_of
leg-said version n leg a h rates =
    rw (
      cycle-is leg.from h,
      number-is 2000 2000 leg.vx (omega arith) (omega arith) rates.vx,
      number-is 2000 2000 leg.vy (omega arith) (omega arith) rates.vy,
      number-is 10000 10000 leg.vz (omega arith) (omega arith) rates.vz,
      address-said n a,
    ) refl

pub gains-said : (version : ℕ) (range altitude : Gains) → IsGains range → IsGains altitude
    → record_of version (gains_record range altitude) ≡ Ok (said.Gains (record { range = range; altitude = altitude }))
unfolding record_of gains_of
gains-said version range altitude h k =
    rw (
      count-is 0 1024 range.alpha (omega arith) h.0 (omega arith),
      count-is 0 1024 range.beta (omega arith) h.1 (omega arith),
      count-is 0 1024 altitude.alpha (omega arith) k.0 (omega arith),
      count-is 0 1024 altitude.beta (omega arith) k.1 (omega arith),
    ) refl

-- An aircraft without its ceiling.
abbrev pub unlimited : CraftSpec → CraftSpec
unlimited craft = record craft { ceiling = None }

pub craft-said : (version : ℕ) (craft : CraftSpec) → IsCraft craft → record_of version (craft_record craft) ≡ Ok (said.Craft (unlimited craft))
unfolding record_of craft_of
craft-said version craft h =
    rw (
      kind-said craft.kind,
      number-is 1000000 1000000 craft.x (omega arith) (omega arith) h.x,
      number-is 1000000 1000000 craft.y (omega arith) (omega arith) h.y,
      number-is 1000 60000 craft.alt (omega arith) (omega arith) h.alt,
      address-said craft.address h.address,
    ) refl

pub climb-said : (version n : ℕ) (limit : ℤ) → 2 ≤ version → IsAddress n → IsAltitude limit → record_of version (climb_record n limit) ≡ Ok (said.Climb n limit)
unfolding record_of climb_of
climb-said version n limit few a h =
    let second = from-format 2 version few in
    rw (second, number-is 1000 60000 limit (omega arith) (omega arith) h, address-said n a) refl

pub miss-said : (version first second from to : ℕ) → IsAddress first → IsAddress second → IsCycle from → IsCycle to → from ≤ to
    → record_of version (codes "miss" ∷ address first ∷ address second ∷ number from ∷ number to ∷ []) ≡ Ok (said.Miss (record { first = first; second = second }) from to)
unfolding record_of miss_of
miss-said version first second from to a b h k order =
    let ordered : nat_lt to from ≡ false = grind (arith, order) in
    rw (cycle-is from h, cycle-is to k, ordered, address-said first a, address-said second b) refl

pub end-said : (version : ℕ) → record_of version end_record ≡ Ok said.End
unfolding record_of end_of
end-said version = refl

-- The records of format 3 alone.

pub profile-said : (version : ℕ) (profile : Profile) → 3 ≤ version → record_of version (profile_record profile) ≡ Ok (said.Profile profile)
unfolding record_of profile_of
profile-said version One few = rw (from-format 3 version few, from-format 2 version (omega (arith, few))) refl
profile-said version Two few = rw (from-format 3 version few, from-format 2 version (omega (arith, few))) refl

pub name-said : (version : ℕ) (text : List ℕ) → 3 ≤ version → is_label text ≡ true → record_of version (name_record text) ≡ Ok (said.Name text)
unfolding record_of name_of
name-said version text few is = rw (from-format 3 version few, from-format 2 version (omega (arith, few)), is) refl

pub clock-said : (version second : ℕ) → 3 ≤ version → second < 86400 → record_of version (clock_record second) ≡ Ok (said.Clock second)
unfolding record_of clock_of
clock-said version second few h = rw (from-format 3 version few, from-format 2 version (omega (arith, few)), clock-is second h) refl

pub call-said : (version n : ℕ) (sign : List ℕ) → 3 ≤ version → IsAddress n → is_call_sign sign ≡ true → record_of version (call_fields n sign) ≡ Ok (said.Call n sign)
unfolding record_of call_of
call-said version n sign few a is = rw (from-format 3 version few, from-format 2 version (omega (arith, few)), is, address-said n a) refl

-- Copies.

copy-said : (copy : CopyPlan) → copy.hold ≤ 60 → copy.mask < 256 → copy_in (number copy.hold) (hex 2 copy.mask) ≡ Some copy
copy-said copy h m = rw (count-is 0 60 copy.hold (omega arith) h (omega arith), mask-is copy.mask (hex 2 copy.mask) (omega arith) refl) refl

count-read : (start count : ℕ) → count ≤ 3 → copies_count start (start + (count + count)) ≡ Some count
count-read start zero h = grind (arith, nat_tests)
count-read start (suc zero) h = grind (arith, nat_tests)
count-read start (suc (suc zero)) h = grind (arith, nat_tests)
count-read start (suc (suc (suc zero))) h = grind (arith, nat_tests)
count-read start (suc (suc (suc (suc n)))) h = absurd (omega arith)

length-copies : (count : ℕ) (one two three : CopyPlan) → count ≤ 3 → length (copies_fields count one two three) ≡ count + count
length-copies zero one two three h = refl
length-copies (suc zero) one two three h = refl
length-copies (suc (suc zero)) one two three h = refl
length-copies (suc (suc (suc zero))) one two three h = refl
length-copies (suc (suc (suc (suc n)))) one two three h = absurd (omega arith)

count-said : (front : List (List ℕ)) (count : ℕ) (one two three : CopyPlan) → count ≤ 3 → copies_count (length front) (length (front ++ copies_fields count one two three)) ≡ Some count
count-said front count one two three h =
    ap (copies_count (length front)) (length-append front (copies_fields count one two three) ∙ ap (λ n. length front + n) (length-copies count one two three h)) ∙ count-read (length front) count h

field-after : (front fields : List (List ℕ)) (n : ℕ) → field (front ++ fields) (length front + n) ≡ field fields n
field-after front fields n = get_or-append-add front fields n []

copies-said : (front : List (List ℕ)) (count : ℕ) (one two three : CopyPlan) → AreCopies count one two three
    → copies_from (front ++ copies_fields count one two three) (length front) count ≡ Some (record { count = count; first = one; second = two; third = three })
copies-said front zero one two three h = rw (h.first.unused (omega arith), h.second.unused (omega arith), h.third.unused (omega arith)) refl
copies-said front (suc zero) one two three h =
    let fields = copies_fields 1 one two three in
    rw (h.second.unused (omega arith), h.third.unused (omega arith), field-after front fields 0, field-after front fields 1, copy-said one h.first.hold h.first.byte) refl
copies-said front (suc (suc zero)) one two three h =
    let fields = copies_fields 2 one two three in
    rw (
      h.third.unused (omega arith),
      field-after front fields 0,
      field-after front fields 1,
      field-after front fields 2,
      field-after front fields 3,
      copy-said one h.first.hold h.first.byte,
      copy-said two h.second.hold h.second.byte,
    ) refl
copies-said front (suc (suc (suc zero))) one two three h =
    let fields = copies_fields 3 one two three in
    rw (
      field-after front fields 0,
      field-after front fields 1,
      field-after front fields 2,
      field-after front fields 3,
      field-after front fields 4,
      field-after front fields 5,
      copy-said one h.first.hold h.first.byte,
      copy-said two h.second.hold h.second.byte,
      copy-said three h.third.hold h.third.byte,
    ) refl
copies-said front (suc (suc (suc (suc n)))) one two three h = absurd (omega (arith, h.few))

abbrev pub plan-copies : LinkPlan → Copies
plan-copies plan = record { count = plan.copies; first = plan.first; second = plan.second; third = plan.third }

pub plan-said : (version first second : ℕ) (plan : LinkPlan) → 2 ≤ version → IsAddress first → IsAddress second → AreCopies plan.copies plan.first plan.second plan.third
    → record_of version (codes "plan" ∷ address first ∷ address second ∷ copies_fields plan.copies plan.first plan.second plan.third) ≡ Ok (said.Plan (record { first = first; second = second }) (plan-copies plan))
unfolding record_of plan_of
plan-said version first second plan few a b h =
    let from = from-format 2 version few in
    let front = codes "plan" ∷ address first ∷ address second ∷ [] in
    rw (from, count-said front plan.copies plan.first plan.second plan.third h.few, copies-said front plan.copies plan.first plan.second plan.third h, address-said first a, address-said second b) refl

abbrev pub fate-copies : Fate → Copies
fate-copies fate = record { count = fate.copies; first = fate.first; second = fate.second; third = fate.third }

pub fate-said : (version first second : ℕ) (fate : Fate) → IsAddress first → IsAddress second → IsCycle fate.number → AreCopies fate.copies fate.first fate.second fate.third
    → record_of version (codes "fate" ∷ address first ∷ address second ∷ number fate.number ∷ copies_fields fate.copies fate.first fate.second fate.third)
    ≡ Ok (said.Fate (record { first = first; second = second }) fate.number (fate-copies fate))
unfolding record_of fate_of
fate-said version first second fate a b k h =
    let front = codes "fate" ∷ address first ∷ address second ∷ number fate.number ∷ [] in
    rw (count-said front fate.copies fate.first fate.second fate.third h.few, cycle-is fate.number k, copies-said front fate.copies fate.first fate.second fate.third h, address-said first a, address-said second b) refl
