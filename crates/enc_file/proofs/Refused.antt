-- Why the next record is refused, or that it isn't.
use Rattle.std.proofs.Common.{◌≡◌, ℕ, Bool, true, false, ℤ, List, length, Option, Some, None, refl, ap, ◌∙◌}
use Rattle.std.specs.Prelude.{◌||◌, if◌then◌else◌, not, IsTrue, is_none, option_map, Result, Ok, Err, MatchResult}
use Rattle.std.specs.Result.{IsErrAnd}
use Rattle.std.specs.List.{list_any}
use Rattle.acas_base.specs.Encounter.{is_active}
use Rattle.acas_base.specs.Order.{fate_below, leg_below, miss_below, plan_below}
use Rattle.acas_base.specs.declared.craft.CraftSpec.{CraftSpec}
use Rattle.flight.specs.Inside.{IsInside, stays_inside}
use Rattle.enc_file.specs.Earlier.{calls_of, crafts_of, encounter_by, fate_by, fate_group, fates_of, for_pair, index_of, leg_by, leg_group, legs_of, miss_by, miss_group, misses_of, pair_number, plan_by, plan_group, plans_of, run_of}
use Rattle.enc_file.specs.Faults.{are_masks_bad, comes_late, fault_of, has_bad_mask, has_call, has_ceiling, holds, is_called, lacks_profile, leaves_box, miscounts, names_unknown, repeats}
use Rattle.enc_file.specs.Reading.{refusal_after}
use Rattle.enc_file.specs.Tables.{Holds, Refuses}
use Rattle.enc_file.specs.declared.record.Addresses.{Addresses}
use Rattle.enc_file.specs.declared.record.Copies.{Copies}
use Rattle.enc_file.specs.declared.record.Course.{Course}
use Rattle.enc_file.specs.declared.record.Record.{Record}
use Rattle.enc_file.specs.declared.record.Record.TheVariants as said
use Rattle.enc_file.specs.declared.refusal.Code.{Code}
use Rattle.enc_file.specs.declared.refusal.Code.TheVariants as code
use Rattle.enc_file.specs.declared.refusal.ReadError.{ReadError}
use Rattle.enc_file.specs.declared.refusal.ReadError.TheVariants.{OutOfMemory, Refused}
use Rattle.enc_file.specs.declared.tables.Tables.{Tables}
use Rattle.std.proofs.Math.Bool.{or-false, or-true}
use Rattle.flight.proofs.Boxed.{stays-inside}
use Rattle.enc_file.proofs.Named.{for-pair-none, for-pair-some, pair-of}

-- The refusal that the tables make is that of the record after the earlier ones.
pub refuses : (earlier : List Record) (tables : Tables) (P : Code → Type 0) (why : Code) (e : ReadError) → Holds earlier tables → P why → e ≡ Refused (refusal_after tables.count why) → Refuses (length earlier) P e
refuses earlier tables P why e h p is = rw is (why, p, ap (λ n. refusal_after n why) h.count)

-- The lowest code of several.
pub by-repeat : (earlier : List Record) (now : Record) → repeats earlier now ≡ true → fault_of earlier now ≡ Some code.Repeat
by-repeat earlier now a = rw a refl

pub by-unknown : (earlier : List Record) (now : Record) → repeats earlier now ≡ false → names_unknown earlier now ≡ true → fault_of earlier now ≡ Some code.Unknown
by-unknown earlier now a b = rw (a, b) refl

pub by-count : (earlier : List Record) (now : Record) → repeats earlier now ≡ false → names_unknown earlier now ≡ false → miscounts earlier now ≡ true → fault_of earlier now ≡ Some code.Count
by-count earlier now a b c = rw (a, b, c) refl

pub by-box : (earlier : List Record) (now : Record) → repeats earlier now ≡ false → names_unknown earlier now ≡ false → miscounts earlier now ≡ false → leaves_box earlier now ≡ true → fault_of earlier now ≡ Some code.Box
by-box earlier now a b c d = rw (a, b, c, d) refl

pub by-none : (earlier : List Record) (now : Record) → repeats earlier now ≡ false → names_unknown earlier now ≡ false → miscounts earlier now ≡ false → leaves_box earlier now ≡ false → has_bad_mask now ≡ false
    → fault_of earlier now ≡ None
by-none earlier now a b c d e = rw (a, b, c, d, e) refl

-- A ceiling.
pub climb-unknown : (earlier : List Record) (address : ℕ) (limit : ℤ) → index_of (crafts_of earlier) address ≡ None → fault_of earlier (said.Climb address limit) ≡ Some code.Unknown
climb-unknown earlier address limit at =
    by-unknown earlier (said.Climb address limit) (ap (λ o. holds (option_map (has_ceiling (crafts_of earlier)) o)) at) (ap is_none at)

climb-repeats : (earlier : List Record) (address : ℕ) (limit : ℤ) (craft : ℕ) → index_of (crafts_of earlier) address ≡ Some craft → repeats earlier (said.Climb address limit) ≡ has_ceiling (crafts_of earlier) craft
climb-repeats earlier address limit craft at = ap (λ o. holds (option_map (has_ceiling (crafts_of earlier)) o)) at

pub climb-repeated : (earlier : List Record) (address : ℕ) (limit : ℤ) (craft : ℕ) → index_of (crafts_of earlier) address ≡ Some craft → has_ceiling (crafts_of earlier) craft ≡ true
    → fault_of earlier (said.Climb address limit) ≡ Some code.Repeat
climb-repeated earlier address limit craft at has = by-repeat earlier (said.Climb address limit) (climb-repeats earlier address limit craft at ∙ has)

pub climb-fine : (earlier : List Record) (address : ℕ) (limit : ℤ) (craft : ℕ) → index_of (crafts_of earlier) address ≡ Some craft → has_ceiling (crafts_of earlier) craft ≡ false
    → fault_of earlier (said.Climb address limit) ≡ None
climb-fine earlier address limit craft at has =
    by-none earlier (said.Climb address limit) (climb-repeats earlier address limit craft at ∙ has) (ap is_none at) refl refl refl

-- A call sign.
pub call-signed : (earlier : List Record) (address : ℕ) (sign : List ℕ) → is_called (calls_of earlier) sign ≡ true → fault_of earlier (said.Call address sign) ≡ Some code.Repeat
call-signed earlier address sign is =
    by-repeat earlier (said.Call address sign) (ap (λ b. holds (option_map (has_call (calls_of earlier)) (index_of (crafts_of earlier) address)) || b) is ∙ or-true _)

call-repeats : (earlier : List Record) (address : ℕ) (sign : List ℕ) (o : Option ℕ) (b : Bool) → index_of (crafts_of earlier) address ≡ o → is_called (calls_of earlier) sign ≡ false
    → holds (option_map (has_call (calls_of earlier)) o) ≡ b → repeats earlier (said.Call address sign) ≡ b
call-repeats earlier address sign o b at new is = rw (at, new, is) (or-false b)

pub call-unknown : (earlier : List Record) (address : ℕ) (sign : List ℕ) → is_called (calls_of earlier) sign ≡ false → index_of (crafts_of earlier) address ≡ None
    → fault_of earlier (said.Call address sign) ≡ Some code.Unknown
call-unknown earlier address sign new at = by-unknown earlier (said.Call address sign) (call-repeats earlier address sign None false at new refl) (ap is_none at)

pub call-repeated : (earlier : List Record) (address : ℕ) (sign : List ℕ) (craft : ℕ) → is_called (calls_of earlier) sign ≡ false → index_of (crafts_of earlier) address ≡ Some craft
    → has_call (calls_of earlier) craft ≡ true → fault_of earlier (said.Call address sign) ≡ Some code.Repeat
call-repeated earlier address sign craft new at has = by-repeat earlier (said.Call address sign) (call-repeats earlier address sign (Some craft) true at new has)

pub call-fine : (earlier : List Record) (address : ℕ) (sign : List ℕ) (craft : ℕ) → is_called (calls_of earlier) sign ≡ false → index_of (crafts_of earlier) address ≡ Some craft
    → has_call (calls_of earlier) craft ≡ false → fault_of earlier (said.Call address sign) ≡ None
call-fine earlier address sign craft new at bare =
    by-none earlier (said.Call address sign) (call-repeats earlier address sign (Some craft) false at new bare) (ap is_none at) refl refl refl

-- A leg.
pub leg-unknown : (earlier : List Record) (address : ℕ) (course : Course) → index_of (crafts_of earlier) address ≡ None → fault_of earlier (said.Leg address course) ≡ Some code.Unknown
leg-unknown earlier address course at =
    by-unknown earlier (said.Leg address course) (ap (λ o. holds (option_map (λ craft. comes_late leg_group leg_below (legs_of earlier) (leg_by course craft)) o)) at) (ap is_none at)

pub leg-fault : (earlier : List Record) (address : ℕ) (course : Course) (craft : ℕ) → index_of (crafts_of earlier) address ≡ Some craft
    → fault_of earlier (said.Leg address course) ≡ (if comes_late leg_group leg_below (legs_of earlier) (leg_by course craft) then Some code.Repeat else None)
leg-fault earlier address course craft at = rw at refl

-- Records of a pair: what they repeat, and that the pair is there.
pair-repeats : (crafts : List CraftSpec) (pair : Addresses) (f : ℕ → ℕ → Bool) (p : ℕ × ℕ) → pair-of crafts pair ≡ Some p → holds (for_pair crafts pair f) ≡ f p.0 p.1
pair-repeats crafts pair f p at = ap holds (for-pair-some crafts pair f p at)

pair-none : (crafts : List CraftSpec) (pair : Addresses) (f : ℕ → ℕ → Bool) → pair-of crafts pair ≡ None → holds (for_pair crafts pair f) ≡ false
pair-none crafts pair f at = ap holds (for-pair-none crafts pair f at)

pair-known : (crafts : List CraftSpec) (pair : Addresses) (p : ℕ × ℕ) → pair-of crafts pair ≡ Some p → is_none (for_pair crafts pair pair_number) ≡ false
pair-known crafts pair p at = ap is_none (for-pair-some crafts pair pair_number p at)

pair-unknown : (crafts : List CraftSpec) (pair : Addresses) → pair-of crafts pair ≡ None → is_none (for_pair crafts pair pair_number) ≡ true
pair-unknown crafts pair at = ap is_none (for-pair-none crafts pair pair_number at)

-- A miss.
pub miss-unknown : (earlier : List Record) (pair : Addresses) (from to : ℕ) → pair-of (crafts_of earlier) pair ≡ None → fault_of earlier (said.Miss pair from to) ≡ Some code.Unknown
miss-unknown earlier pair from to at =
    by-unknown earlier (said.Miss pair from to) (pair-none (crafts_of earlier) pair (λ i j. comes_late miss_group miss_below (misses_of earlier) (miss_by from to i j)) at) (pair-unknown (crafts_of earlier) pair at)

pub miss-fault : (earlier : List Record) (pair : Addresses) (from to : ℕ) (p : ℕ × ℕ) → pair-of (crafts_of earlier) pair ≡ Some p
    → fault_of earlier (said.Miss pair from to) ≡ (if comes_late miss_group miss_below (misses_of earlier) (miss_by from to p.0 p.1) then Some code.Repeat else None)
miss-fault earlier pair from to p at = rw (pair-repeats (crafts_of earlier) pair (λ i j. comes_late miss_group miss_below (misses_of earlier) (miss_by from to i j)) p at, pair-known (crafts_of earlier) pair p at) refl

-- A plan.
pub plan-unknown : (earlier : List Record) (pair : Addresses) (copies : Copies) → pair-of (crafts_of earlier) pair ≡ None → fault_of earlier (said.Plan pair copies) ≡ Some code.Unknown
plan-unknown earlier pair copies at =
    by-unknown earlier (said.Plan pair copies) (pair-none (crafts_of earlier) pair (λ i j. comes_late plan_group plan_below (plans_of earlier) (plan_by copies i j)) at) (pair-unknown (crafts_of earlier) pair at)

pub plan-fault : (earlier : List Record) (pair : Addresses) (copies : Copies) (p : ℕ × ℕ) → pair-of (crafts_of earlier) pair ≡ Some p
    → fault_of earlier (said.Plan pair copies) ≡ (if comes_late plan_group plan_below (plans_of earlier) (plan_by copies p.0 p.1) then Some code.Repeat else if are_masks_bad copies.first copies.second copies.third then Some code.Mask else None)
plan-fault earlier pair copies p at = rw (pair-repeats (crafts_of earlier) pair (λ i j. comes_late plan_group plan_below (plans_of earlier) (plan_by copies i j)) p at, pair-known (crafts_of earlier) pair p at) refl

-- A fate.
pub fate-unknown : (earlier : List Record) (pair : Addresses) (number : ℕ) (copies : Copies) → pair-of (crafts_of earlier) pair ≡ None → fault_of earlier (said.Fate pair number copies) ≡ Some code.Unknown
fate-unknown earlier pair number copies at =
    by-unknown earlier (said.Fate pair number copies) (pair-none (crafts_of earlier) pair (λ i j. comes_late fate_group fate_below (fates_of earlier) (fate_by number copies i j)) at) (pair-unknown (crafts_of earlier) pair at)

pub fate-fault : (earlier : List Record) (pair : Addresses) (number : ℕ) (copies : Copies) (p : ℕ × ℕ) → pair-of (crafts_of earlier) pair ≡ Some p
    → fault_of earlier (said.Fate pair number copies) ≡ (if comes_late fate_group fate_below (fates_of earlier) (fate_by number copies p.0 p.1) then Some code.Repeat else if are_masks_bad copies.first copies.second copies.third then Some code.Mask else None)
fate-fault earlier pair number copies p at = rw (pair-repeats (crafts_of earlier) pair (λ i j. comes_late fate_group fate_below (fates_of earlier) (fate_by number copies i j)) p at, pair-known (crafts_of earlier) pair p at) refl

-- Memory may be wanting at any time.
pub wanting : {T : Type 0} (P : T → Type 0) (count : ℕ) (Q : Code → Type 0) (r : Result T ReadError) → IsErrAnd r (λ e. e ≡ OutOfMemory) → MatchResult r P (Refuses count Q)
wanting P count Q (Ok x) h = absurd h
wanting P count Q (Err e) h = rw h tt

-- The end.
pub end-no-run : (earlier : List Record) → run_of earlier ≡ None → miscounts earlier said.End ≡ true
end-no-run earlier none = ap (λ o. is_none o || (lacks_profile earlier || not (list_any is_active (crafts_of earlier)))) none

or-not : (a b c : Bool) → c ≡ false → (a || (b || not c)) ≡ true
or-not true b c e = refl
or-not false true c e = refl
or-not false false c e = rw e refl

or-second : (a b c : Bool) → b ≡ true → (a || (b || c)) ≡ true
or-second true b c e = refl
or-second false b c e = rw e refl

pub end-lacking : (earlier : List Record) → lacks_profile earlier ≡ true → miscounts earlier said.End ≡ true
end-lacking earlier lacking = or-second (is_none (run_of earlier)) (lacks_profile earlier) (not (list_any is_active (crafts_of earlier))) lacking

pub end-nobody : (earlier : List Record) → list_any is_active (crafts_of earlier) ≡ false → miscounts earlier said.End ≡ true
end-nobody earlier nobody = or-not (is_none (run_of earlier)) (lacks_profile earlier) (list_any is_active (crafts_of earlier)) nobody

pub end-miscounted : (earlier : List Record) → miscounts earlier said.End ≡ true → fault_of earlier said.End ≡ Some code.Count
end-miscounted earlier missing = by-count earlier said.End refl refl missing

not-true : (b : Bool) → (IsTrue b → ⊥) → not b ≡ true
not-true true h = absurd (h refl)
not-true false h = refl

not-false : (b : Bool) → IsTrue b → not b ≡ false
not-false true h = refl
not-false false h = absurd (cc h)

pub end-outside : (earlier : List Record) → miscounts earlier said.End ≡ false → (IsInside (encounter_by earlier) → ⊥) → fault_of earlier said.End ≡ Some code.Box
end-outside earlier counted outside =
    by-box earlier said.End refl refl counted (not-true (stays_inside (encounter_by earlier)) (λ t. outside ((stays-inside (encounter_by earlier)).0 t)))

pub end-fine : (earlier : List Record) → miscounts earlier said.End ≡ false → IsInside (encounter_by earlier) → fault_of earlier said.End ≡ None
end-fine earlier counted inside = by-none earlier said.End refl refl counted (not-false (stays_inside (encounter_by earlier)) ((stays-inside (encounter_by earlier)).1 inside)) refl
