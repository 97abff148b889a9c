-- What the tables hold after one more record.
use Rattle.std.proofs.Common.{◌≡◌, ℕ, ◌+◌, ◌*◌, ◌<◌, ◌≤◌, Bool, true, false, ℤ, List, [], ◌∷◌, ◌++◌, length, map, set, get_or, Option, Some, None, Vec, Global, refl, sym, ap, ◌∙◌, arith, subst}
use Rattle.std.specs.Prelude.{Result, Ok, Err, if◌then◌else◌, is_none, option_map, unwrap_or}
use Rattle.std.specs.List.{flat_map, list_any}
use Rattle.std.specs.Option.{option_to_list}
use Rattle.std.proofs.lemmas.Bool.{false≢true}
use Rattle.std.proofs.lemmas.Option.{none-some}
use Rattle.std.proofs.lemmas.List.FromFn.{length-map-range_with_len}
use Rattle.acas_base.specs.Encounter.{Parts, encounter_of, is_active}
use Rattle.acas_base.specs.Order.{fate_below, leg_below, miss_below, plan_below}
use Rattle.acas_base.specs.declared.TheConstants.{CRAFTS}
use Rattle.acas_base.specs.declared.craft.CraftSpec.{CraftSpec}
use Rattle.acas_base.specs.declared.craft.Leg.{Leg}
use Rattle.acas_base.specs.declared.craft.Miss.{Miss}
use Rattle.acas_base.specs.declared.label.Call.{Call}
use Rattle.acas_base.specs.declared.link.Fate.{Fate}
use Rattle.acas_base.specs.declared.link.LinkPlan.{LinkPlan}
use Rattle.acas_base.specs.declared.setting.Setting.{Setting}
use Rattle.enc_file.specs.Earlier.{all_gains, by_group, call_by, call_group, calls_of, crafts_of, encounter_by, fate_by, fate_group, fates_of, for_index, for_pair, has_ended, heading_of, in_group, index_of, leg_by, leg_group, legs_of, miss_by, miss_group, misses_of, pair_number, plan_by, plan_group, plans_of, run_of, setting_by, usual_gains, version_of, with_ceiling}
use Rattle.enc_file.specs.Faults.{comes_late, fault_of, lacks_profile, miscounts}
use Rattle.enc_file.specs.Groups.{Lists, fate_masked, group_at, is_late, last_of, leg_masked, listed_fault, miss_masked, plan_masked}
use Rattle.enc_file.specs.Reading.{refusal_after}
use Rattle.enc_file.specs.Tables.{Adds, AreGoing, Holds, IsMade, Settles, grouped}
use Rattle.enc_file.specs.WellRead.{AreRead, IsNext, IsOfFormat, IsSaid}
use Rattle.enc_file.specs.declared.record.Addresses.{Addresses}
use Rattle.enc_file.specs.declared.record.Copies.{Copies}
use Rattle.enc_file.specs.declared.record.Course.{Course}
use Rattle.enc_file.specs.declared.record.Heading.{Heading}
use Rattle.enc_file.specs.declared.record.Record.{Record}
use Rattle.enc_file.specs.declared.record.Record.TheVariants as said
use Rattle.enc_file.specs.declared.record.Run.{Run}
use Rattle.enc_file.specs.declared.record.TrackGains.{TrackGains}
use Rattle.enc_file.specs.declared.refusal.Code.{Code}
use Rattle.enc_file.specs.declared.refusal.Code.TheVariants as code
use Rattle.enc_file.specs.declared.refusal.ReadError.{ReadError}
use Rattle.enc_file.specs.declared.refusal.ReadError.TheVariants.{Refused}
use Rattle.enc_file.specs.declared.tables.Tables.{Tables}
use Rattle.enc_file.proofs.Crafted.{crafts-few}
use Rattle.enc_file.proofs.Grouped.{groups-add, groups-at, groups-joined}
use Rattle.enc_file.proofs.Orders.{pair-within}
use Rattle.enc_file.proofs.Refused.{fate-fault, leg-fault, miss-fault, plan-fault, refuses}
use Rattle.enc_file.proofs.Repeated.{fate-late, leg-late, miss-late, plan-late}
use Rattle.enc_file.proofs.Named.{for-pair-some, index-within, pair-known, pair-of}

read-more : (earlier : List Record) (now : Record) → AreRead earlier → 1 ≤ length earlier → IsNext earlier now → AreRead (now ∷ earlier)
read-more [] now read some next = absurd (omega (arith, some))
read-more (last ∷ earlier) now read some next = (read, next)

-- One more record stands well after the earlier ones.
abbrev pub IsFine : List Record → Record → Type 0
IsFine earlier now = IsSaid now × IsOfFormat (version_of earlier) now × (fault_of earlier now ≡ None)

pub more-read : (earlier : List Record) (tables : Tables) (now : Record) → Holds earlier tables → AreGoing earlier → IsFine earlier now → AreRead (now ∷ earlier)
more-read earlier tables now h going fine = read-more earlier now h.read going.some (record { ranges = fine.0; format = fine.1; unended = going.unended; sound = fine.2 })

none-made : (earlier : List Record) (made : Option Parts) → IsMade earlier made → has_ended earlier ≡ false → made ≡ None
none-made earlier None is going = refl
none-made earlier (Some e) is going = absurd (false≢true (sym going ∙ is.0))

-- No encounter is made before the end.
pub still-none : (earlier now : List Record) (made : Option Parts) → IsMade earlier made → has_ended earlier ≡ false → has_ended now ≡ false → IsMade now made
still-none earlier now made is going unended = rw (none-made earlier made is going) unended

-- How many groups there are, and which stands where.
pub groups-length : {X : Type 0} (group : X → ℕ) (xs : List X) (lists : List (List X)) (n : ℕ) → lists ≡ grouped group n xs → length lists ≡ n
groups-length group xs lists n is = ap length is ∙ length-map-range_with_len (in_group group xs) 0 n

-- The tables hold the same, whichever pair was found last.
pub still-holds : (earlier : List Record) (old new : Tables) → new ≡ record old { last = new.last } → Holds earlier old → Holds earlier new
still-holds earlier old new kept h = subst (Holds earlier) (sym kept) (record {
  read = h.read;
  count = h.count;
  version = h.version;
  heading = h.heading;
  run = h.run;
  gains = h.gains;
  crafts = h.crafts;
  calls = h.calls;
  legs = h.legs;
  misses = h.misses;
  plans = h.plans;
  fates = h.fates;
  made = h.made;
})

-- What is wrong with a record, told by the last one of the group that is kept.
kept-fault : {X : Type 0} (group : X → ℕ) (below : X → X → Bool) (masked : X → Bool) (xs : List X) (lists : List (List X)) (n : ℕ) (x : X) → lists ≡ grouped group n xs → group x < n
    → comes_late group below xs x ≡ is_late below (last_of (in_group group xs (group x))) x
    → listed_fault below masked (last_of (group_at lists (group x))) x ≡ (if comes_late group below xs x then Some code.Repeat else if masked x then Some code.Mask else None)
kept-fault group below masked xs lists n x is within late =
    ap (λ list. listed_fault below masked (last_of list) x) (ap (λ all. get_or all (group x) []) is ∙ groups-at group xs n (group x) within)
    ∙ ap (λ b. if b then Some code.Repeat else if masked x then Some code.Mask else None) (sym late)

-- An aircraft's index is that of a group.
pub craft-within : (earlier : List Record) (address craft : ℕ) → AreRead earlier → index_of (crafts_of earlier) address ≡ Some craft → craft < CRAFTS
craft-within earlier address craft read at = omega (arith, index-within (crafts_of earlier) address craft at, crafts-few earlier read)

pub pair-in : (earlier : List Record) (pair : Addresses) (p : ℕ × ℕ) → AreRead earlier → pair-of (crafts_of earlier) pair ≡ Some p → (p.0 < CRAFTS) × (p.1 < CRAFTS)
pair-in earlier pair p read at =
    let known = pair-known (crafts_of earlier) pair p at in
    (omega (arith, known.first, crafts-few earlier read), omega (arith, known.second, crafts-few earlier read))

pub number-within : (earlier : List Record) (pair : Addresses) (p : ℕ × ℕ) → AreRead earlier → pair-of (crafts_of earlier) pair ≡ Some p → pair_number p.0 p.1 < CRAFTS * CRAFTS
number-within earlier pair p read at = pair-within (length (crafts_of earlier)) p.0 p.1 (crafts-few earlier read) (pair-known (crafts_of earlier) pair p at)

-- What was settled is an answer on the record, if the fault is its fault, and without one the tables hold it.
pub settled : {T : Type 0} (earlier : List Record) (now : Record) (tables kept new : Tables) (fault : Option Code) (result : Result T ReadError) → Holds earlier tables → kept.count ≡ tables.count
    → fault ≡ fault_of earlier now → (fault ≡ None → Holds (now ∷ earlier) (record kept { count = kept.count + 1 })) → Settles kept fault new result → Adds earlier now new result
settled earlier now tables kept new None (Ok t) h count is holds settles = subst (Holds (now ∷ earlier)) (sym settles.1) (holds refl)
settled earlier now tables kept new None (Err e) h count is holds settles = absurd (cc (settles.0))
settled earlier now tables kept new (Some why) (Ok t) h count is holds settles = absurd (settles.0)
settled earlier now tables kept new (Some why) (Err e) h count is holds settles =
    refuses earlier tables (λ w. fault_of earlier now ≡ Some w) why e h (sym is) (settles.0 ∙ ap (λ n. Refused (refusal_after n why)) count)

-- What an added list is.
pub listed : {X : Type 0} (group : X → ℕ) (below : X → X → Bool) (masked : X → Bool) (old new : List (List X)) (x : X) (fault : Option Code)
    → Lists group below masked old x new fault → fault ≡ None → new ≡ set old (group x) (group_at old (group x) ++ x ∷ [])
listed group below masked old new x None h is = h.1
listed group below masked old new x (Some why) h is = absurd (none-some why (sym is))

-- The faults of each list's records.
pub leg-kept : (earlier : List Record) (tables : Tables) (address : ℕ) (course : Course) (craft : ℕ) → Holds earlier tables → index_of (crafts_of earlier) address ≡ Some craft
    → listed_fault leg_below leg_masked (last_of (group_at tables.legs craft)) (leg_by course craft) ≡ fault_of earlier (said.Leg address course)
leg-kept earlier tables address course craft h at =
    let x = leg_by course craft in
    kept-fault leg_group leg_below leg_masked (legs_of earlier) tables.legs CRAFTS x h.legs (craft-within earlier address craft h.read at) (leg-late earlier h.read x) ∙ sym (leg-fault earlier address course craft at)

pub miss-kept : (earlier : List Record) (tables : Tables) (pair : Addresses) (from to : ℕ) (p : ℕ × ℕ) → Holds earlier tables → pair-of (crafts_of earlier) pair ≡ Some p
    → listed_fault miss_below miss_masked (last_of (group_at tables.misses (pair_number p.0 p.1))) (miss_by from to p.0 p.1) ≡ fault_of earlier (said.Miss pair from to)
miss-kept earlier tables pair from to p h at =
    let x = miss_by from to p.0 p.1 in
    kept-fault miss_group miss_below miss_masked (misses_of earlier) tables.misses (CRAFTS * CRAFTS) x h.misses (number-within earlier pair p h.read at) (miss-late earlier h.read x) ∙ sym (miss-fault earlier pair from to p at)

pub plan-kept : (earlier : List Record) (tables : Tables) (pair : Addresses) (copies : Copies) (p : ℕ × ℕ) → Holds earlier tables → pair-of (crafts_of earlier) pair ≡ Some p
    → listed_fault plan_below plan_masked (last_of (group_at tables.plans (pair_number p.0 p.1))) (plan_by copies p.0 p.1) ≡ fault_of earlier (said.Plan pair copies)
plan-kept earlier tables pair copies p h at =
    let x = plan_by copies p.0 p.1 in
    kept-fault plan_group plan_below plan_masked (plans_of earlier) tables.plans (CRAFTS * CRAFTS) x h.plans (number-within earlier pair p h.read at) (plan-late earlier h.read x) ∙ sym (plan-fault earlier pair copies p at)

pub fate-kept : (earlier : List Record) (tables : Tables) (pair : Addresses) (number : ℕ) (copies : Copies) (p : ℕ × ℕ) → Holds earlier tables → pair-of (crafts_of earlier) pair ≡ Some p
    → listed_fault fate_below fate_masked (last_of (group_at tables.fates (pair_number p.0 p.1))) (fate_by number copies p.0 p.1) ≡ fault_of earlier (said.Fate pair number copies)
fate-kept earlier tables pair number copies p h at =
    let x = fate_by number copies p.0 p.1 in
    kept-fault fate_group fate_below fate_masked (fates_of earlier) tables.fates (CRAFTS * CRAFTS) x h.fates (number-within earlier pair p h.read at) (fate-late earlier h.read x) ∙ sym (fate-fault earlier pair number copies p at)

-- One more in its group.
one-more : {X : Type 0} (group : X → ℕ) (xs : List X) (lists lists2 : List (List X)) (n k : ℕ) (o : Option X) (x : X)
    → lists ≡ grouped group n xs → group x ≡ k → k < n → o ≡ Some x → lists2 ≡ set lists k (group_at lists k ++ x ∷ []) → lists2 ≡ grouped group n (xs ++ option_to_list o)
one-more group xs lists lists2 n k o x is at within some new =
    new ∙ ap (λ j. set lists j (get_or lists j [] ++ x ∷ [])) (sym at) ∙ groups-add group xs lists n x is (rw at within) ∙ ap (λ ys. grouped group n (xs ++ ys)) (sym (ap option_to_list some))

pub held-leg : (earlier : List Record) (tables : Tables) (address : ℕ) (course : Course) (craft : ℕ) (legs : List (List Leg))
    → Holds earlier tables → AreGoing earlier → IsFine earlier (said.Leg address course) → index_of (crafts_of earlier) address ≡ Some craft
    → legs ≡ set tables.legs craft (group_at tables.legs craft ++ leg_by course craft ∷ [])
    → Holds (said.Leg address course ∷ earlier) (record tables { legs = legs; count = tables.count + 1 })
held-leg earlier tables address course craft legs h going fine at new = record {
  read = more-read earlier tables (said.Leg address course) h going fine;
  count = ap (λ n. n + 1) h.count ∙ omega arith;
  version = h.version;
  heading = h.heading;
  run = h.run;
  gains = h.gains;
  crafts = h.crafts;
  calls = h.calls;
  legs = one-more leg_group (legs_of earlier) tables.legs legs CRAFTS craft (for_index (crafts_of earlier) address (leg_by course)) (leg_by course craft) h.legs refl (craft-within earlier address craft h.read at) (ap (option_map (leg_by course)) at) new;
  misses = h.misses;
  plans = h.plans;
  fates = h.fates;
  made = still-none earlier (said.Leg address course ∷ earlier) tables.made h.made going.unended going.unended;
}

pub held-miss : (earlier : List Record) (tables : Tables) (pair : Addresses) (from to : ℕ) (p : ℕ × ℕ) (misses : List (List Miss))
    → Holds earlier tables → AreGoing earlier → IsFine earlier (said.Miss pair from to) → pair-of (crafts_of earlier) pair ≡ Some p
    → misses ≡ set tables.misses (pair_number p.0 p.1) (group_at tables.misses (pair_number p.0 p.1) ++ miss_by from to p.0 p.1 ∷ [])
    → Holds (said.Miss pair from to ∷ earlier) (record tables { misses = misses; count = tables.count + 1 })
held-miss earlier tables pair from to p misses h going fine at new = record {
  read = more-read earlier tables (said.Miss pair from to) h going fine;
  count = ap (λ n. n + 1) h.count ∙ omega arith;
  version = h.version;
  heading = h.heading;
  run = h.run;
  gains = h.gains;
  crafts = h.crafts;
  calls = h.calls;
  legs = h.legs;
  misses = one-more miss_group (misses_of earlier) tables.misses misses (CRAFTS * CRAFTS) (pair_number p.0 p.1) (for_pair (crafts_of earlier) pair (miss_by from to)) (miss_by from to p.0 p.1) h.misses refl (number-within earlier pair p h.read at) (for-pair-some (crafts_of earlier) pair (miss_by from to) p at) new;
  plans = h.plans;
  fates = h.fates;
  made = still-none earlier (said.Miss pair from to ∷ earlier) tables.made h.made going.unended going.unended;
}

pub held-plan : (earlier : List Record) (tables : Tables) (pair : Addresses) (copies : Copies) (p : ℕ × ℕ) (plans : List (List LinkPlan))
    → Holds earlier tables → AreGoing earlier → IsFine earlier (said.Plan pair copies) → pair-of (crafts_of earlier) pair ≡ Some p
    → plans ≡ set tables.plans (pair_number p.0 p.1) (group_at tables.plans (pair_number p.0 p.1) ++ plan_by copies p.0 p.1 ∷ [])
    → Holds (said.Plan pair copies ∷ earlier) (record tables { plans = plans; count = tables.count + 1 })
held-plan earlier tables pair copies p plans h going fine at new = record {
  read = more-read earlier tables (said.Plan pair copies) h going fine;
  count = ap (λ n. n + 1) h.count ∙ omega arith;
  version = h.version;
  heading = h.heading;
  run = h.run;
  gains = h.gains;
  crafts = h.crafts;
  calls = h.calls;
  legs = h.legs;
  misses = h.misses;
  plans = one-more plan_group (plans_of earlier) tables.plans plans (CRAFTS * CRAFTS) (pair_number p.0 p.1) (for_pair (crafts_of earlier) pair (plan_by copies)) (plan_by copies p.0 p.1) h.plans refl (number-within earlier pair p h.read at) (for-pair-some (crafts_of earlier) pair (plan_by copies) p at) new;
  fates = h.fates;
  made = still-none earlier (said.Plan pair copies ∷ earlier) tables.made h.made going.unended going.unended;
}

pub held-fate : (earlier : List Record) (tables : Tables) (pair : Addresses) (number : ℕ) (copies : Copies) (p : ℕ × ℕ) (fates : List (List Fate))
    → Holds earlier tables → AreGoing earlier → IsFine earlier (said.Fate pair number copies) → pair-of (crafts_of earlier) pair ≡ Some p
    → fates ≡ set tables.fates (pair_number p.0 p.1) (group_at tables.fates (pair_number p.0 p.1) ++ fate_by number copies p.0 p.1 ∷ [])
    → Holds (said.Fate pair number copies ∷ earlier) (record tables { fates = fates; count = tables.count + 1 })
held-fate earlier tables pair number copies p fates h going fine at new = record {
  read = more-read earlier tables (said.Fate pair number copies) h going fine;
  count = ap (λ n. n + 1) h.count ∙ omega arith;
  version = h.version;
  heading = h.heading;
  run = h.run;
  gains = h.gains;
  crafts = h.crafts;
  calls = h.calls;
  legs = h.legs;
  misses = h.misses;
  plans = h.plans;
  fates = one-more fate_group (fates_of earlier) tables.fates fates (CRAFTS * CRAFTS) (pair_number p.0 p.1) (for_pair (crafts_of earlier) pair (fate_by number copies)) (fate_by number copies p.0 p.1) h.fates refl (number-within earlier pair p h.read at) (for-pair-some (crafts_of earlier) pair (fate_by number copies) p at) new;
  made = still-none earlier (said.Fate pair number copies ∷ earlier) tables.made h.made going.unended going.unended;
}

pub held-call : (earlier : List Record) (tables : Tables) (address : ℕ) (sign : List ℕ) (craft : ℕ) (calls : Vec Call Global)
    → Holds earlier tables → AreGoing earlier → IsFine earlier (said.Call address sign) → index_of (crafts_of earlier) address ≡ Some craft → calls.items ≡ tables.calls.items ++ call_by sign craft ∷ []
    → Holds (said.Call address sign ∷ earlier) (record tables { calls = calls; count = tables.count + 1 })
held-call earlier tables address sign craft calls h going fine at new = record {
  read = more-read earlier tables (said.Call address sign) h going fine;
  count = ap (λ n. n + 1) h.count ∙ omega arith;
  version = h.version;
  heading = h.heading;
  run = h.run;
  gains = h.gains;
  crafts = h.crafts;
  calls = new ∙ ap (λ (xs : List Call). xs ++ call_by sign craft ∷ []) h.calls ∙ ap (λ o. calls_of earlier ++ option_to_list (option_map (call_by sign) o)) (sym at);
  legs = h.legs;
  misses = h.misses;
  plans = h.plans;
  fates = h.fates;
  made = still-none earlier (said.Call address sign ∷ earlier) tables.made h.made going.unended going.unended;
}

pub held-climb : (earlier : List Record) (tables : Tables) (address : ℕ) (limit : ℤ) (crafts : Vec CraftSpec Global)
    → Holds earlier tables → AreGoing earlier → IsFine earlier (said.Climb address limit) → crafts.items ≡ map (with_ceiling address limit) (crafts_of earlier)
    → Holds (said.Climb address limit ∷ earlier) (record tables { crafts = crafts; count = tables.count + 1 })
held-climb earlier tables address limit crafts h going fine new = record {
  read = more-read earlier tables (said.Climb address limit) h going fine;
  count = ap (λ n. n + 1) h.count ∙ omega arith;
  version = h.version;
  heading = h.heading;
  run = h.run;
  gains = h.gains;
  crafts = new;
  calls = h.calls;
  legs = h.legs;
  misses = h.misses;
  plans = h.plans;
  fates = h.fates;
  made = still-none earlier (said.Climb address limit ∷ earlier) tables.made h.made going.unended going.unended;
}

-- The joined groups of a list.
joined-are : {X : Type 0} (group : X → ℕ) (n : ℕ) (xs all : List X) (lists : List (List X)) → all ≡ flat_map (λ list. list) lists → lists ≡ grouped group n xs → all ≡ by_group group n xs
joined-are group n xs all lists joined is = joined ∙ ap (flat_map (λ list. list)) is ∙ groups-joined group xs n

parts-are : (earlier : List Record) (version : ℕ) (heading : Heading) (run : Run) (gains : TrackGains) (calls : List Call) (crafts : List CraftSpec) (legs : List Leg) (misses : List Miss) (plans : List LinkPlan) (fates : List Fate)
    → version ≡ version_of earlier → heading ≡ heading_of earlier → run_of earlier ≡ Some run → gains ≡ all_gains earlier → calls ≡ by_group call_group CRAFTS (calls_of earlier) → crafts ≡ crafts_of earlier
    → legs ≡ by_group leg_group CRAFTS (legs_of earlier) → misses ≡ by_group miss_group (CRAFTS * CRAFTS) (misses_of earlier)
    → plans ≡ by_group plan_group (CRAFTS * CRAFTS) (plans_of earlier) → fates ≡ by_group fate_group (CRAFTS * CRAFTS) (fates_of earlier)
    → encounter_of (setting_by version heading run gains) calls crafts legs misses plans fates ≡ encounter_by earlier
parts-are earlier version heading run gains calls crafts legs misses plans fates v d r g s c l m p f = rw (v, d, r, g, s, c, l, m, p, f) refl

-- The parts that the tables give are those of the encounter that the records say.
pub parts-held : (earlier : List Record) (tables : Tables) (run : Run) (gains : TrackGains) (setting : Setting) (calls : List Call) (crafts : List CraftSpec) (legs : List Leg) (misses : List Miss) (plans : List LinkPlan) (fates : List Fate)
    → Holds earlier tables → tables.run ≡ Some run → gains ≡ unwrap_or tables.gains usual_gains → setting ≡ setting_by tables.version tables.heading run gains
    → calls ≡ by_group call_group CRAFTS tables.calls.items → crafts ≡ tables.crafts.items
    → legs ≡ flat_map (λ list. list) tables.legs → misses ≡ flat_map (λ list. list) tables.misses → plans ≡ flat_map (λ list. list) tables.plans → fates ≡ flat_map (λ list. list) tables.fates
    → encounter_of setting calls crafts legs misses plans fates ≡ encounter_by earlier
parts-held earlier tables run gains setting calls crafts legs misses plans fates h r g s signs c l m p f =
    ap (λ (it : Setting). encounter_of it calls crafts legs misses plans fates) s
    ∙ parts-are earlier tables.version tables.heading run gains calls crafts legs misses plans fates h.version h.heading (sym h.run ∙ r) (g ∙ ap (λ o. unwrap_or o usual_gains) h.gains)
    (signs ∙ ap (by_group call_group CRAFTS) h.calls) (c ∙ h.crafts)
    (joined-are leg_group CRAFTS (legs_of earlier) legs tables.legs l h.legs) (joined-are miss_group (CRAFTS * CRAFTS) (misses_of earlier) misses tables.misses m h.misses)
    (joined-are plan_group (CRAFTS * CRAFTS) (plans_of earlier) plans tables.plans p h.plans) (joined-are fate_group (CRAFTS * CRAFTS) (fates_of earlier) fates tables.fates f h.fates)

-- There is a run, and an active aircraft.
pub run-held : (earlier : List Record) (tables : Tables) (run : Run) → Holds earlier tables → tables.run ≡ Some run → is_none (run_of earlier) ≡ false
run-held earlier tables run h r = ap is_none (sym h.run ∙ r)

pub active-held : (earlier : List Record) (tables : Tables) → Holds earlier tables → list_any is_active tables.crafts.items ≡ true → list_any is_active (crafts_of earlier) ≡ true
active-held earlier tables h active = ap (list_any is_active) (sym h.crafts) ∙ active

-- At the end nothing is missing.
pub nothing-missing : (earlier : List Record) (tables : Tables) (run : Run) → Holds earlier tables → tables.run ≡ Some run → lacks_profile earlier ≡ false → list_any is_active tables.crafts.items ≡ true
    → miscounts earlier said.End ≡ false
nothing-missing earlier tables run h r profile active =
    let given = run-held earlier tables run h r in
    let some = active-held earlier tables h active in
    rw (given, profile, some) refl

pub held-end : (earlier : List Record) (tables : Tables) (e : Parts) → Holds earlier tables → AreGoing earlier → fault_of earlier said.End ≡ None → e ≡ encounter_by earlier
    → Holds (said.End ∷ earlier) (record tables { made = Some e; count = tables.count + 1 })
held-end earlier tables e h going fine is = record {
  read = more-read earlier tables said.End h going (tt, tt, fine);
  count = ap (λ n. n + 1) h.count ∙ omega arith;
  version = h.version;
  heading = h.heading;
  run = h.run;
  gains = h.gains;
  crafts = h.crafts;
  calls = h.calls;
  legs = h.legs;
  misses = h.misses;
  plans = h.plans;
  fates = h.fates;
  made = (refl, is);
}
