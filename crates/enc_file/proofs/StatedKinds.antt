-- Of each kind of record, its reading tells the lowest of its faults.
use Rattle.std.proofs.Common.{◌≡◌, ℕ, Bool, true, false, ◌&&◌, ◌||◌, not, ℤ, pos, neg_ℤ, List, length, Option, Some, None, refl, sym, ap, ◌∙◌}
use Rattle.std.specs.Prelude.{◌==◌, nat_le, nat_lt, is_none, is_some, option_map, if◌then◌else◌, count_ones, Result, Ok, Err}
use Rattle.std.specs.Int.Count.{ones}
use Rattle.std.specs.List.{list_any}
use Rattle.std.specs.Option.{option_and_then}
use Rattle.std.proofs.lemmas.Bool.{eqb-true}
use Rattle.std.proofs.lemmas.Option.{none-some, same_Some}
use Rattle.acas_base.specs.Encounter.{is_active, most_crafts, plain_copy}
use Rattle.acas_base.specs.declared.craft.Kind.{Kind}
use Rattle.acas_base.specs.declared.link.CopyPlan.{CopyPlan}
use Rattle.acas_base.specs.declared.setting.Profile.{Profile}
use Rattle.enc_file.specs.Clock.{clock_in}
use Rattle.enc_file.specs.Conditions.{RecordKind, RunKind, GainsKind, CraftKind, ClimbKind, LegKind, MissKind, PlanKind, FateKind, EndKind, ProfileKind, NameKind, ClockKind, CallKind, are_masked, has_climb, if_said, is_address_wrong, is_call_by, is_call_for, is_count_wrong, is_fate_since, is_given, is_leg_since, is_masked, is_miscounted, is_miss_until, is_number_wrong, is_outside, is_plan_for, is_repeat, is_unknown, no_copies}
use Rattle.enc_file.specs.Earlier as gives
use Rattle.flight.specs.Inside.{stays_inside}
use Rattle.enc_file.specs.Faults.{are_masks_bad, fault_of, is_mask_bad, lacks_profile}
use Rattle.enc_file.specs.Reading.{checked, unless_faulty}
use Rattle.enc_file.specs.Saying.{call_of, climb_of, clock_of, craft_of, end_of, fate_of, gains_of, leg_of, miss_of, name_of, needs, plan_of, profile_of, run_of}
use Rattle.enc_file.specs.Values.{address_in, copies_count, copies_from, count_in, field, kind_in, label_in, mask_in, number_in, profile_in, sign_in}
use Rattle.enc_file.specs.declared.record.Addresses.{Addresses}
use Rattle.enc_file.specs.declared.record.Copies.{Copies}
use Rattle.enc_file.specs.declared.record.Record.{Record}
use Rattle.enc_file.specs.declared.record.Record.TheVariants as said
use Rattle.enc_file.specs.declared.refusal.Code.{Code}
use Rattle.enc_file.specs.declared.refusal.Code.TheVariants as code
use Rattle.enc_file.proofs.LowestCode.{lowest_of, or_else}
use Rattle.enc_file.proofs.Stated.{AreSound, calls-stated, climb-stated, crafts-named, fates-stated, given-is, index-stated, legs-stated, misses-stated, plans-stated, signs-stated, unknown-stated}

-- The faults of a record of a kind.
abbrev pub fault_by : List Record → RecordKind → List (List ℕ) → Code → Bool
fault_by earlier kind fields code.Header = false
fault_by earlier kind fields code.Kind = false
fault_by earlier kind fields code.Fields = is_count_wrong kind fields
fault_by earlier kind fields code.Number = is_number_wrong kind fields
fault_by earlier kind fields code.Address = is_address_wrong kind fields
fault_by earlier kind fields code.Repeat = is_repeat earlier kind fields
fault_by earlier kind fields code.Unknown = is_unknown earlier kind fields
fault_by earlier kind fields code.Count = is_miscounted earlier kind fields
fault_by earlier kind fields code.Box = is_outside earlier kind fields
fault_by earlier kind fields code.Mask = is_masked kind fields
fault_by earlier kind fields code.NoEnd = false
fault_by earlier kind fields code.After = false

-- Why something is refused, if it is.
abbrev pub fault_in : Result Record Code → Option Code
fault_in (Ok now) = None
fault_in (Err why) = Some why

fault-unless : (now : Record) (o : Option Code) → fault_in (unless_faulty now o) ≡ o
fault-unless now None = refl
fault-unless now (Some why) = refl

-- What a record of a kind says.
abbrev pub read-by : RecordKind → List (List ℕ) → Result Record Code
read-by RunKind fields = run_of fields
read-by GainsKind fields = gains_of fields
read-by CraftKind fields = craft_of fields
read-by ClimbKind fields = climb_of fields
read-by LegKind fields = leg_of fields
read-by MissKind fields = miss_of fields
read-by PlanKind fields = plan_of fields
read-by FateKind fields = fate_of fields
read-by EndKind fields = end_of fields
read-by ProfileKind fields = profile_of fields
read-by NameKind fields = name_of fields
read-by ClockKind fields = clock_of fields
read-by CallKind fields = call_of fields

-- It is read as it says, and its lowest fault is told.
abbrev pub IsTold : List Record → RecordKind → List (List ℕ) → Type 0
IsTold earlier kind fields = fault_in (checked earlier (read-by kind fields)) ≡ lowest_of (fault_by earlier kind fields)

run-at : (earlier : List Record) (fits : Bool) (cycles : Option ℕ) (elevation : Option ℤ)
    → fault_in (checked earlier (if fits then needs cycles code.Number (λ c. needs elevation code.Number (λ e. Ok (said.Run (record { cycles = c; elevation = e })))) else Err code.Fields))
    ≡ or_else (not (fits || false)) code.Fields (or_else (is_none cycles || is_none elevation) code.Number (or_else (is_some (gives.run_of earlier)) code.Repeat None))
run-at earlier false cycles elevation = refl
run-at earlier true None elevation = refl
run-at earlier true (Some c) None = refl
run-at earlier true (Some c) (Some e) = fault-unless (said.Run (record { cycles = c; elevation = e })) _

run-told : (earlier : List Record) (fields : List (List ℕ)) → IsTold earlier RunKind fields
unfolding run_of
run-told earlier fields = run-at earlier (length fields == 3) (count_in 1 600 (field fields 1)) (number_in (neg_ℤ (pos 1000)) (pos 15000) (field fields 2))

gains-at : (earlier : List Record) (fits : Bool) (a b c d : Option ℕ)
    → fault_in (checked earlier (if fits then needs a code.Number (λ w. needs b code.Number (λ x. needs c code.Number (λ y. needs d code.Number (λ z.
    Ok (said.Gains (record { range = record { alpha = w; beta = x }; altitude = record { alpha = y; beta = z } })))))) else Err code.Fields))
    ≡ or_else (not (fits || false)) code.Fields (or_else (is_none a || (is_none b || (is_none c || is_none d))) code.Number (or_else (is_some (gives.gains_of earlier)) code.Repeat None))
gains-at earlier false a b c d = refl
gains-at earlier true None b c d = refl
gains-at earlier true (Some w) None c d = refl
gains-at earlier true (Some w) (Some x) None d = refl
gains-at earlier true (Some w) (Some x) (Some y) None = refl
gains-at earlier true (Some w) (Some x) (Some y) (Some z) = fault-unless (said.Gains (record { range = record { alpha = w; beta = x }; altitude = record { alpha = y; beta = z } })) _

gains-told : (earlier : List Record) (fields : List (List ℕ)) → IsTold earlier GainsKind fields
unfolding gains_of
gains-told earlier fields = gains-at earlier (length fields == 5) (count_in 0 1024 (field fields 1)) (count_in 0 1024 (field fields 2)) (count_in 0 1024 (field fields 3)) (count_in 0 1024 (field fields 4))

pub craft-fault : (earlier : List Record) (address : ℕ) (kind : Kind) (x y alt : ℤ)
    → fault_of earlier (said.Craft (record { address = address; kind = kind; x = x; y = y; alt = alt; ceiling = None }))
    ≡ or_else (is_given earlier address) code.Repeat (or_else (nat_le (most_crafts (gives.version_of earlier)) (length (gives.crafts_of earlier))) code.Count None)
craft-fault earlier address kind x y alt =
    ap (λ b. or_else b code.Repeat (or_else (nat_le (most_crafts (gives.version_of earlier)) (length (gives.crafts_of earlier))) code.Count None)) (sym (given-is earlier address))

craft-at : (earlier : List Record) (fits : Bool) (kind : Option Kind) (x y alt : Option ℤ) (address : Option ℕ)
    → fault_in (checked earlier (if fits then needs kind code.Number (λ k. needs x code.Number (λ a. needs y code.Number (λ b. needs alt code.Number (λ c. needs address code.Address (λ n.
    Ok (said.Craft (record { address = n; kind = k; x = a; y = b; alt = c; ceiling = None }))))))) else Err code.Fields))
    ≡ or_else (not (fits || false)) code.Fields (or_else (is_none kind || (is_none x || (is_none y || is_none alt))) code.Number (or_else (is_none address) code.Address
    (or_else (if_said address (is_given earlier)) code.Repeat (or_else (nat_le (most_crafts (gives.version_of earlier)) (length (gives.crafts_of earlier))) code.Count None))))
craft-at earlier false kind x y alt address = refl
craft-at earlier true None x y alt address = refl
craft-at earlier true (Some k) None y alt address = refl
craft-at earlier true (Some k) (Some a) None alt address = refl
craft-at earlier true (Some k) (Some a) (Some b) None address = refl
craft-at earlier true (Some k) (Some a) (Some b) (Some c) None = refl
craft-at earlier true (Some k) (Some a) (Some b) (Some c) (Some n) =
    fault-unless (said.Craft (record { address = n; kind = k; x = a; y = b; alt = c; ceiling = None })) _ ∙ craft-fault earlier n k a b c

craft-told : (earlier : List Record) (fields : List (List ℕ)) → IsTold earlier CraftKind fields
unfolding craft_of
craft-told earlier fields =
    craft-at earlier (length fields == 6) (kind_in (field fields 2)) (number_in (neg_ℤ (pos 1000000)) (pos 1000000) (field fields 3)) (number_in (neg_ℤ (pos 1000000)) (pos 1000000) (field fields 4))
    (number_in (neg_ℤ (pos 1000)) (pos 60000) (field fields 5)) (address_in (field fields 1))

climb-fault : (earlier : List Record) (address : ℕ) (limit : ℤ) → AreSound earlier
    → fault_of earlier (said.Climb address limit) ≡ or_else (has_climb earlier address) code.Repeat (or_else (not (is_given earlier address)) code.Unknown None)
climb-fault earlier address limit sound = rw (climb-stated earlier address sound, index-stated earlier address) refl

climb-at : (earlier : List Record) → AreSound earlier → (fits : Bool) (limit : Option ℤ) (address : Option ℕ)
    → fault_in (checked earlier (if fits then needs limit code.Number (λ l. needs address code.Address (λ n. Ok (said.Climb n l))) else Err code.Fields))
    ≡ or_else (not (fits || false)) code.Fields (or_else (is_none limit) code.Number (or_else (is_none address) code.Address
    (or_else (if_said address (has_climb earlier)) code.Repeat (or_else (if_said address (λ n. not (is_given earlier n))) code.Unknown None))))
climb-at earlier sound false limit address = refl
climb-at earlier sound true None address = refl
climb-at earlier sound true (Some l) None = refl
climb-at earlier sound true (Some l) (Some n) = fault-unless (said.Climb n l) _ ∙ climb-fault earlier n l sound

climb-told : (earlier : List Record) (fields : List (List ℕ)) → AreSound earlier → IsTold earlier ClimbKind fields
unfolding climb_of
climb-told earlier fields sound = climb-at earlier sound (length fields == 3) (number_in (neg_ℤ (pos 1000)) (pos 60000) (field fields 2)) (address_in (field fields 1))

leg-fault : (earlier : List Record) (address from : ℕ) (vx vy vz : ℤ) → AreSound earlier
    → fault_of earlier (said.Leg address (record { from = from; vx = vx; vy = vy; vz = vz }))
    ≡ or_else (list_any (is_leg_since address from) earlier) code.Repeat (or_else (not (is_given earlier address)) code.Unknown None)
leg-fault earlier address from vx vy vz sound =
    rw (legs-stated (gives.crafts_of earlier) address (record { from = from; vx = vx; vy = vy; vz = vz }) earlier sound (λ a k is. is), index-stated earlier address) refl

leg-at : (earlier : List Record) → AreSound earlier → (fits : Bool) (from : Option ℕ) (vx vy vz : Option ℤ) (address : Option ℕ)
    → fault_in (checked earlier (if fits then needs from code.Number (λ f. needs vx code.Number (λ a. needs vy code.Number (λ b. needs vz code.Number (λ c. needs address code.Address (λ n.
    Ok (said.Leg n (record { from = f; vx = a; vy = b; vz = c }))))))) else Err code.Fields))
    ≡ or_else (not (fits || false)) code.Fields (or_else (is_none from || (is_none vx || (is_none vy || is_none vz))) code.Number (or_else (is_none address) code.Address
    (or_else (if_said address (λ n. if_said from (λ f. list_any (is_leg_since n f) earlier))) code.Repeat (or_else (if_said address (λ n. not (is_given earlier n))) code.Unknown None))))
leg-at earlier sound false from vx vy vz address = refl
leg-at earlier sound true None vx vy vz address = refl
leg-at earlier sound true (Some f) None vy vz address = refl
leg-at earlier sound true (Some f) (Some a) None vz address = refl
leg-at earlier sound true (Some f) (Some a) (Some b) None address = refl
leg-at earlier sound true (Some f) (Some a) (Some b) (Some c) None = refl
leg-at earlier sound true (Some f) (Some a) (Some b) (Some c) (Some n) = fault-unless (said.Leg n (record { from = f; vx = a; vy = b; vz = c })) _ ∙ leg-fault earlier n f a b c sound

leg-told : (earlier : List Record) (fields : List (List ℕ)) → AreSound earlier → IsTold earlier LegKind fields
unfolding leg_of
leg-told earlier fields sound =
    leg-at earlier sound (length fields == 6) (count_in 1 600 (field fields 2)) (number_in (neg_ℤ (pos 2000)) (pos 2000) (field fields 3)) (number_in (neg_ℤ (pos 2000)) (pos 2000) (field fields 4))
    (number_in (neg_ℤ (pos 10000)) (pos 10000) (field fields 5)) (address_in (field fields 1))

-- The two addresses of a record of a pair, and what is wrong with it then.
abbrev pair_faults : List Record → (Addresses → Bool) → Bool → Option ℕ → Option ℕ → Option Code
pair_faults earlier late masked one two =
    or_else (is_none one || is_none two) code.Address (or_else (if_said one (λ first. if_said two (λ second. late (record { first = first; second = second })))) code.Repeat
    (or_else (if_said one (λ first. not (is_given earlier first)) || (if_said two (λ second. not (is_given earlier second)) || if_said one (λ first. if_said two (λ second. first == second)))) code.Unknown
    (or_else masked code.Mask None)))

pair-at : (earlier : List Record) (now : Addresses → Record) (late : Addresses → Bool) (masked : Bool) (one two : Option ℕ)
    → ((pair : Addresses) → fault_of earlier (now pair)
    ≡ or_else (late pair) code.Repeat (or_else (not (is_given earlier pair.first) || (not (is_given earlier pair.second) || pair.first == pair.second)) code.Unknown (or_else masked code.Mask None)))
    → fault_in (checked earlier (needs one code.Address (λ first. needs two code.Address (λ second. Ok (now (record { first = first; second = second })))))) ≡ pair_faults earlier late masked one two
pair-at earlier now late masked None two fault = refl
pair-at earlier now late masked (Some first) None fault = refl
pair-at earlier now late masked (Some first) (Some second) fault =
    let pair : Addresses = record { first = first; second = second } in
    fault-unless (now pair) (fault_of earlier (now pair)) ∙ fault pair

miss-fault : (earlier : List Record) (from to : ℕ) → AreSound earlier → (pair : Addresses) → fault_of earlier (said.Miss pair from to)
    ≡ or_else (list_any (is_miss_until pair from) earlier) code.Repeat (or_else (not (is_given earlier pair.first) || (not (is_given earlier pair.second) || pair.first == pair.second)) code.Unknown (or_else false code.Mask None))
miss-fault earlier from to sound pair =
    rw (misses-stated (gives.crafts_of earlier) pair from to earlier (crafts-named earlier sound).few sound (λ a k is. is), unknown-stated earlier pair) refl

miss-pair : (earlier : List Record) → AreSound earlier → (from to : ℕ) (one two : Option ℕ) (turned : Bool)
    → fault_in (checked earlier (if turned then Err code.Number else needs one code.Address (λ first. needs two code.Address (λ second. Ok (said.Miss (record { first = first; second = second }) from to)))))
    ≡ or_else turned code.Number (pair_faults earlier (λ pair. list_any (is_miss_until pair from) earlier) false one two)
miss-pair earlier sound from to one two true = refl
miss-pair earlier sound from to one two false = pair-at earlier (λ pair. said.Miss pair from to) (λ pair. list_any (is_miss_until pair from) earlier) false one two (miss-fault earlier from to sound)

miss-at : (earlier : List Record) → AreSound earlier → (fits : Bool) (from to one two : Option ℕ)
    → fault_in (checked earlier (if fits then needs from code.Number (λ f. needs to code.Number (λ t. if nat_lt t f then Err code.Number else
    needs one code.Address (λ first. needs two code.Address (λ second. Ok (said.Miss (record { first = first; second = second }) f t))))) else Err code.Fields))
    ≡ or_else (not (fits || false)) code.Fields (or_else (is_none from || (is_none to || if_said from (λ f. if_said to (λ t. nat_lt t f)))) code.Number
    (pair_faults earlier (λ pair. if_said from (λ f. list_any (is_miss_until pair f) earlier)) false one two))
miss-at earlier sound false from to one two = refl
miss-at earlier sound true None to one two = refl
miss-at earlier sound true (Some f) None one two = refl
miss-at earlier sound true (Some f) (Some t) one two = miss-pair earlier sound f t one two (nat_lt t f)

miss-told : (earlier : List Record) (fields : List (List ℕ)) → AreSound earlier → IsTold earlier MissKind fields
unfolding miss_of
miss-told earlier fields sound = miss-at earlier sound (length fields == 5) (count_in 1 600 (field fields 3)) (count_in 1 600 (field fields 4)) (address_in (field fields 1)) (address_in (field fields 2))

-- Copies: what is wrong with the fields of one.
abbrev copy_if : Bool → Option CopyPlan → Option CopyPlan
copy_if unused copy = if unused then Some plain_copy else copy

abbrev copies_by : ℕ → Option CopyPlan → Option CopyPlan → Option CopyPlan → Option Copies
copies_by count one two three = option_and_then (λ first. option_and_then (λ second. option_map (λ third. record { count = count; first = first; second = second; third = third }) three) two) one

no-one : (unused : Bool) (copy : Option CopyPlan) → is_none (copy_if unused copy) ≡ (not unused && is_none copy)
no-one true copy = refl
no-one false copy = refl

no-three : (count : ℕ) (one two three : Option CopyPlan) → is_none (copies_by count one two three) ≡ (is_none one || (is_none two || is_none three))
no-three count None two three = refl
no-three count (Some a) None three = refl
no-three count (Some a) (Some b) None = refl
no-three count (Some a) (Some b) (Some c) = refl

three-are : (count : ℕ) (one two three : Option CopyPlan) (copies : Copies) → copies_by count one two three ≡ Some copies → (one ≡ Some copies.first) × (two ≡ Some copies.second) × (three ≡ Some copies.third)
three-are count None two three copies is = absurd (none-some copies is)
three-are count (Some a) None three copies is = absurd (none-some copies is)
three-are count (Some a) (Some b) None copies is = absurd (none-some copies is)
three-are count (Some a) (Some b) (Some c) copies is =
    let e = same_Some (record { count = count; first = a; second = b; third = c }) copies is in
    (ap (λ (x : Copies). Some x.first) e, ap (λ (x : Copies). Some x.second) e, ap (λ (x : Copies). Some x.third) e)

-- The mask of one.
abbrev bad_mask : ℕ → Bool
bad_mask mask = nat_lt 3 (count_ones mask)

nothing-masked : is_mask_bad plain_copy ≡ false
unfolding ones
nothing-masked = refl

abbrev copy_by : Option ℕ → Option ℕ → Option CopyPlan
copy_by hold mask = option_and_then (λ h. option_map (λ m. record { hold = h; mask = m }) mask) hold

mask-one : (unused : Bool) (hold mask : Option ℕ) (copy : CopyPlan) → copy_if unused (copy_by hold mask) ≡ Some copy → is_mask_bad copy ≡ (not unused && if_said mask bad_mask)
mask-one true hold mask copy is = ap is_mask_bad (sym (same_Some plain_copy copy is)) ∙ nothing-masked
mask-one false None mask copy is = absurd (none-some copy is)
mask-one false (Some h) None copy is = absurd (none-some copy is)
mask-one false (Some h) (Some m) copy is = ap is_mask_bad (sym (same_Some (record { hold = h; mask = m }) copy is))

-- The copies of a record, with which of the three it has.
pub record AreCopiesTold (wrong masked : Bool) (copies : Option Copies) : Type 0 where
  pub none : is_none copies ≡ wrong
  pub masks : (some : Copies) → copies ≡ Some some → are_masks_bad some.first some.second some.third ≡ masked

copies-are : (count : ℕ) (a b c : Bool) (h0 m0 h1 m1 h2 m2 : Option ℕ)
    → AreCopiesTold ((not a && is_none (copy_by h0 m0)) || ((not b && is_none (copy_by h1 m1)) || (not c && is_none (copy_by h2 m2))))
    ((not a && if_said m0 bad_mask) || ((not b && if_said m1 bad_mask) || (not c && if_said m2 bad_mask)))
    (copies_by count (copy_if a (copy_by h0 m0)) (copy_if b (copy_by h1 m1)) (copy_if c (copy_by h2 m2)))
copies-are count a b c h0 m0 h1 m1 h2 m2 =
    let one = copy_if a (copy_by h0 m0) in
    let two = copy_if b (copy_by h1 m1) in
    let three = copy_if c (copy_by h2 m2) in
    record {
      none = no-three count one two three ∙ rw (no-one a (copy_by h0 m0), no-one b (copy_by h1 m1), no-one c (copy_by h2 m2)) refl;
      masks = λ some is.
          let parts = three-are count one two three some is in
          rw (mask-one a h0 m0 some.first parts.0, mask-one b h1 m1 some.second parts.1, mask-one c h2 m2 some.third parts.2) refl;
    }

-- A plan's fields: none to three whole copies.
plan-copies : (fields : List (List ℕ)) (n count : ℕ) → length fields ≡ n → copies_count 3 n ≡ Some count → AreCopiesTold (no_copies fields 3) (are_masked fields 3) (copies_from fields 3 count)
plan-copies fields n count long is = by (n == 3) (n == 5) (n == 7) (n == 9) refl refl refl refl is where
  by : (a b c d : Bool) → (n == 3) ≡ a → (n == 5) ≡ b → (n == 7) ≡ c → (n == 9) ≡ d → (if a then Some 0 else if b then Some 1 else if c then Some 2 else if d then Some 3 else None) ≡ Some count
      → AreCopiesTold (no_copies fields 3) (are_masked fields 3) (copies_from fields 3 count)
  by true b c d e f g h k = rw (long ∙ eqb-true n 3 e, sym (same_Some 0 count k)) (copies-are 0 true true true (count_in 0 60 (field fields 3)) (mask_in (field fields 4)) (count_in 0 60 (field fields 5)) (mask_in (field fields 6)) (count_in 0 60 (field fields 7)) (mask_in (field fields 8)))
  by false true c d e f g h k = rw (long ∙ eqb-true n 5 f, sym (same_Some 1 count k)) (copies-are 1 false true true (count_in 0 60 (field fields 3)) (mask_in (field fields 4)) (count_in 0 60 (field fields 5)) (mask_in (field fields 6)) (count_in 0 60 (field fields 7)) (mask_in (field fields 8)))
  by false false true d e f g h k = rw (long ∙ eqb-true n 7 g, sym (same_Some 2 count k)) (copies-are 2 false false true (count_in 0 60 (field fields 3)) (mask_in (field fields 4)) (count_in 0 60 (field fields 5)) (mask_in (field fields 6)) (count_in 0 60 (field fields 7)) (mask_in (field fields 8)))
  by false false false true e f g h k = rw (long ∙ eqb-true n 9 h, sym (same_Some 3 count k)) (copies-are 3 false false false (count_in 0 60 (field fields 3)) (mask_in (field fields 4)) (count_in 0 60 (field fields 5)) (mask_in (field fields 6)) (count_in 0 60 (field fields 7)) (mask_in (field fields 8)))
  by false false false false e f g h k = absurd (none-some count k)

-- A fate's.
fate-copies : (fields : List (List ℕ)) (n count : ℕ) → length fields ≡ n → copies_count 4 n ≡ Some count → AreCopiesTold (no_copies fields 4) (are_masked fields 4) (copies_from fields 4 count)
fate-copies fields n count long is = by (n == 4) (n == 6) (n == 8) (n == 10) refl refl refl refl is where
  by : (a b c d : Bool) → (n == 4) ≡ a → (n == 6) ≡ b → (n == 8) ≡ c → (n == 10) ≡ d → (if a then Some 0 else if b then Some 1 else if c then Some 2 else if d then Some 3 else None) ≡ Some count
      → AreCopiesTold (no_copies fields 4) (are_masked fields 4) (copies_from fields 4 count)
  by true b c d e f g h k = rw (long ∙ eqb-true n 4 e, sym (same_Some 0 count k)) (copies-are 0 true true true (count_in 0 60 (field fields 4)) (mask_in (field fields 5)) (count_in 0 60 (field fields 6)) (mask_in (field fields 7)) (count_in 0 60 (field fields 8)) (mask_in (field fields 9)))
  by false true c d e f g h k = rw (long ∙ eqb-true n 6 f, sym (same_Some 1 count k)) (copies-are 1 false true true (count_in 0 60 (field fields 4)) (mask_in (field fields 5)) (count_in 0 60 (field fields 6)) (mask_in (field fields 7)) (count_in 0 60 (field fields 8)) (mask_in (field fields 9)))
  by false false true d e f g h k = rw (long ∙ eqb-true n 8 g, sym (same_Some 2 count k)) (copies-are 2 false false true (count_in 0 60 (field fields 4)) (mask_in (field fields 5)) (count_in 0 60 (field fields 6)) (mask_in (field fields 7)) (count_in 0 60 (field fields 8)) (mask_in (field fields 9)))
  by false false false true e f g h k = rw (long ∙ eqb-true n 10 h, sym (same_Some 3 count k)) (copies-are 3 false false false (count_in 0 60 (field fields 4)) (mask_in (field fields 5)) (count_in 0 60 (field fields 6)) (mask_in (field fields 7)) (count_in 0 60 (field fields 8)) (mask_in (field fields 9)))
  by false false false false e f g h k = absurd (none-some count k)

-- So many copies or none.
counted : (a b c d : Bool) → not (a || (b || (c || (d || false)))) ≡ is_none {T = ℕ} (if a then Some 0 else if b then Some 1 else if c then Some 2 else if d then Some 3 else None)
counted true b c d = refl
counted false true c d = refl
counted false false true d = refl
counted false false false true = refl
counted false false false false = refl

plan-fault : (earlier : List Record) (copies : Copies) (masked : Bool) → AreSound earlier → are_masks_bad copies.first copies.second copies.third ≡ masked → (pair : Addresses) → fault_of earlier (said.Plan pair copies)
    ≡ or_else (list_any (is_plan_for pair) earlier) code.Repeat (or_else (not (is_given earlier pair.first) || (not (is_given earlier pair.second) || pair.first == pair.second)) code.Unknown (or_else masked code.Mask None))
plan-fault earlier copies masked sound is pair =
    rw (plans-stated (gives.crafts_of earlier) pair copies earlier (crafts-named earlier sound).few sound (λ a k same. same), unknown-stated earlier pair, is) refl

plan-pair : (earlier : List Record) → AreSound earlier → (copies : Option Copies) (wrong masked : Bool) (one two : Option ℕ) → AreCopiesTold wrong masked copies
    → fault_in (checked earlier (needs copies code.Number (λ all. needs one code.Address (λ first. needs two code.Address (λ second. Ok (said.Plan (record { first = first; second = second }) all))))))
    ≡ or_else wrong code.Number (pair_faults earlier (λ pair. list_any (is_plan_for pair) earlier) masked one two)
plan-pair earlier sound None wrong masked one two told = ap (λ b. or_else b code.Number (pair_faults earlier (λ pair. list_any (is_plan_for pair) earlier) masked one two)) told.none
plan-pair earlier sound (Some copies) wrong masked one two told =
    pair-at earlier (λ pair. said.Plan pair copies) (λ pair. list_any (is_plan_for pair) earlier) masked one two (plan-fault earlier copies masked sound (told.masks copies refl))
    ∙ ap (λ b. or_else b code.Number (pair_faults earlier (λ pair. list_any (is_plan_for pair) earlier) masked one two)) told.none

plan-at : (earlier : List Record) (fields : List (List ℕ)) → AreSound earlier → (o : Option ℕ) → copies_count 3 (length fields) ≡ o → (one two : Option ℕ)
    → fault_in (checked earlier (needs o code.Fields (λ count. needs (copies_from fields 3 count) code.Number (λ all. needs one code.Address (λ first. needs two code.Address (λ second.
    Ok (said.Plan (record { first = first; second = second }) all)))))))
    ≡ or_else (is_none o) code.Fields (or_else (no_copies fields 3) code.Number (pair_faults earlier (λ pair. list_any (is_plan_for pair) earlier) (are_masked fields 3) one two))
plan-at earlier fields sound None is one two = refl
plan-at earlier fields sound (Some count) is one two =
    plan-pair earlier sound (copies_from fields 3 count) (no_copies fields 3) (are_masked fields 3) one two (plan-copies fields (length fields) count refl is)

plan-told : (earlier : List Record) (fields : List (List ℕ)) → AreSound earlier → IsTold earlier PlanKind fields
unfolding plan_of
plan-told earlier fields sound =
    plan-at earlier fields sound (copies_count 3 (length fields)) refl (address_in (field fields 1)) (address_in (field fields 2))
    ∙ ap (λ b. or_else b code.Fields (or_else (no_copies fields 3) code.Number (pair_faults earlier (λ pair. list_any (is_plan_for pair) earlier) (are_masked fields 3) (address_in (field fields 1)) (address_in (field fields 2)))))
    (sym (counted (length fields == 3) (length fields == 5) (length fields == 7) (length fields == 9)))

fate-fault : (earlier : List Record) (number : ℕ) (copies : Copies) (masked : Bool) → AreSound earlier → are_masks_bad copies.first copies.second copies.third ≡ masked → (pair : Addresses) → fault_of earlier (said.Fate pair number copies)
    ≡ or_else (list_any (is_fate_since pair number) earlier) code.Repeat (or_else (not (is_given earlier pair.first) || (not (is_given earlier pair.second) || pair.first == pair.second)) code.Unknown (or_else masked code.Mask None))
fate-fault earlier number copies masked sound is pair =
    rw (fates-stated (gives.crafts_of earlier) pair number copies earlier (crafts-named earlier sound).few sound (λ a k same. same), unknown-stated earlier pair, is) refl

fate-pair : (earlier : List Record) → AreSound earlier → (number : ℕ) (copies : Option Copies) (wrong masked : Bool) (one two : Option ℕ) → AreCopiesTold wrong masked copies
    → fault_in (checked earlier (needs copies code.Number (λ all. needs one code.Address (λ first. needs two code.Address (λ second. Ok (said.Fate (record { first = first; second = second }) number all))))))
    ≡ or_else wrong code.Number (pair_faults earlier (λ pair. list_any (is_fate_since pair number) earlier) masked one two)
fate-pair earlier sound number None wrong masked one two told = ap (λ b. or_else b code.Number (pair_faults earlier (λ pair. list_any (is_fate_since pair number) earlier) masked one two)) told.none
fate-pair earlier sound number (Some copies) wrong masked one two told =
    pair-at earlier (λ pair. said.Fate pair number copies) (λ pair. list_any (is_fate_since pair number) earlier) masked one two (fate-fault earlier number copies masked sound (told.masks copies refl))
    ∙ ap (λ b. or_else b code.Number (pair_faults earlier (λ pair. list_any (is_fate_since pair number) earlier) masked one two)) told.none

fate-at : (earlier : List Record) (fields : List (List ℕ)) → AreSound earlier → (o : Option ℕ) → copies_count 4 (length fields) ≡ o → (number one two : Option ℕ)
    → fault_in (checked earlier (needs o code.Fields (λ count. needs number code.Number (λ n. needs (copies_from fields 4 count) code.Number (λ all. needs one code.Address (λ first. needs two code.Address (λ second.
    Ok (said.Fate (record { first = first; second = second }) n all))))))))
    ≡ or_else (is_none o) code.Fields (or_else (is_none number || no_copies fields 4) code.Number (pair_faults earlier (λ pair. if_said number (λ n. list_any (is_fate_since pair n) earlier)) (are_masked fields 4) one two))
fate-at earlier fields sound None is number one two = refl
fate-at earlier fields sound (Some count) is None one two = refl
fate-at earlier fields sound (Some count) is (Some n) one two =
    fate-pair earlier sound n (copies_from fields 4 count) (no_copies fields 4) (are_masked fields 4) one two (fate-copies fields (length fields) count refl is)

fate-told : (earlier : List Record) (fields : List (List ℕ)) → AreSound earlier → IsTold earlier FateKind fields
unfolding fate_of
fate-told earlier fields sound =
    fate-at earlier fields sound (copies_count 4 (length fields)) refl (count_in 1 600 (field fields 3)) (address_in (field fields 1)) (address_in (field fields 2))
    ∙ ap (λ b. or_else b code.Fields (or_else (is_none (count_in 1 600 (field fields 3)) || no_copies fields 4) code.Number
    (pair_faults earlier (λ pair. if_said (count_in 1 600 (field fields 3)) (λ n. list_any (is_fate_since pair n) earlier)) (are_masked fields 4) (address_in (field fields 1)) (address_in (field fields 2)))))
    (sym (counted (length fields == 4) (length fields == 6) (length fields == 8) (length fields == 10)))

end-at : (earlier : List Record) (fits : Bool) → fault_in (checked earlier (if fits then Ok said.End else Err code.Fields))
    ≡ or_else (not (fits || false)) code.Fields (or_else (is_none (gives.run_of earlier) || (lacks_profile earlier || not (list_any is_active (gives.crafts_of earlier)))) code.Count (or_else (not (stays_inside (gives.encounter_by earlier))) code.Box None))
end-at earlier false = refl
end-at earlier true = fault-unless said.End _

end-told : (earlier : List Record) (fields : List (List ℕ)) → IsTold earlier EndKind fields
unfolding end_of
end-told earlier fields = end-at earlier (length fields == 1)

-- A record that is given once, with one field.
once-at : {X : Type 0} (earlier : List Record) (now : X → Record) (given : Bool) → ((x : X) → fault_of earlier (now x) ≡ or_else given code.Repeat None) → (fits : Bool) (o : Option X)
    → fault_in (checked earlier (if fits then needs o code.Number (λ x. Ok (now x)) else Err code.Fields))
    ≡ or_else (not (fits || false)) code.Fields (or_else (is_none o) code.Number (or_else given code.Repeat None))
once-at earlier now given fault false o = refl
once-at earlier now given fault true None = refl
once-at earlier now given fault true (Some x) = fault-unless (now x) (fault_of earlier (now x)) ∙ fault x

profile-told : (earlier : List Record) (fields : List (List ℕ)) → IsTold earlier ProfileKind fields
unfolding profile_of
profile-told earlier fields = once-at earlier (λ profile. said.Profile profile) (is_some (gives.heading_of earlier).profile) (λ x. refl) (length fields == 2) (profile_in (field fields 1))

name-told : (earlier : List Record) (fields : List (List ℕ)) → IsTold earlier NameKind fields
unfolding name_of
name-told earlier fields = once-at earlier (λ text. said.Name text) (is_some (gives.heading_of earlier).name) (λ x. refl) (length fields == 2) (label_in (field fields 1))

clock-told : (earlier : List Record) (fields : List (List ℕ)) → IsTold earlier ClockKind fields
unfolding clock_of
clock-told earlier fields = once-at earlier (λ second. said.Clock second) (is_some (gives.heading_of earlier).clock) (λ x. refl) (length fields == 2) (clock_in (field fields 1))

call-fault : (earlier : List Record) (address : ℕ) (sign : List ℕ) → AreSound earlier
    → fault_of earlier (said.Call address sign)
    ≡ or_else (list_any (is_call_for address) earlier || list_any (is_call_by sign) earlier) code.Repeat (or_else (not (is_given earlier address)) code.Unknown None)
call-fault earlier address sign sound =
    rw (calls-stated (gives.crafts_of earlier) address earlier sound (λ a k is. is), signs-stated sign earlier sound, index-stated earlier address) refl

call-at : (earlier : List Record) → AreSound earlier → (fits : Bool) (sign : Option (List ℕ)) (address : Option ℕ)
    → fault_in (checked earlier (if fits then needs sign code.Number (λ s. needs address code.Address (λ n. Ok (said.Call n s))) else Err code.Fields))
    ≡ or_else (not (fits || false)) code.Fields (or_else (is_none sign) code.Number (or_else (is_none address) code.Address
    (or_else (if_said address (λ n. list_any (is_call_for n) earlier) || if_said sign (λ s. list_any (is_call_by s) earlier)) code.Repeat
    (or_else (if_said address (λ n. not (is_given earlier n))) code.Unknown None))))
call-at earlier sound false sign address = refl
call-at earlier sound true None address = refl
call-at earlier sound true (Some s) None = refl
call-at earlier sound true (Some s) (Some n) = fault-unless (said.Call n s) _ ∙ call-fault earlier n s sound

call-told : (earlier : List Record) (fields : List (List ℕ)) → AreSound earlier → IsTold earlier CallKind fields
unfolding call_of
call-told earlier fields sound = call-at earlier sound (length fields == 3) (sign_in (field fields 2)) (address_in (field fields 1))

pub kind-told : (earlier : List Record) (kind : RecordKind) (fields : List (List ℕ)) → AreSound earlier → IsTold earlier kind fields
kind-told earlier RunKind fields sound = run-told earlier fields
kind-told earlier GainsKind fields sound = gains-told earlier fields
kind-told earlier CraftKind fields sound = craft-told earlier fields
kind-told earlier ClimbKind fields sound = climb-told earlier fields sound
kind-told earlier LegKind fields sound = leg-told earlier fields sound
kind-told earlier MissKind fields sound = miss-told earlier fields sound
kind-told earlier PlanKind fields sound = plan-told earlier fields sound
kind-told earlier FateKind fields sound = fate-told earlier fields sound
kind-told earlier EndKind fields sound = end-told earlier fields
kind-told earlier ProfileKind fields sound = profile-told earlier fields
kind-told earlier NameKind fields sound = name-told earlier fields
kind-told earlier ClockKind fields sound = clock-told earlier fields
kind-told earlier CallKind fields sound = call-told earlier fields sound
