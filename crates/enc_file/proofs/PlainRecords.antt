-- The records of an encounter are readable: their words, numbers and addresses have no comma and no end of line.
use Rattle.std.proofs.Common.{◌≡◌, ℕ, zero, suc, ◌+◌, ◌/◌, ◌%◌, ◌<◌, ℤ, pos, negsuc, List, [], ◌∷◌, ◌++◌, map, Option, Some, None, Bool, true, false, if◌then◌else◌, nat_le, nat_lt, codes, refl, arith, ltb-true, ne_eqb, take}
use Rattle.std.specs.Prelude.{◌==◌, IfSome, IsTrue}
use Rattle.std.specs.Fmt.{digit_glyph, digits_onto, digits, decimal, signed_decimal}
use Rattle.std.specs.List.{AllByRecursion, flat_map, list_all}
use Rattle.std.proofs.lemmas.Bool.{and_parts}
use Rattle.std.proofs.lemmas.Bool.Decides.{nat_tests}
use Rattle.std.proofs.lemmas.List.Elements.{recursion_from_All}
use Rattle.acas_base.specs.Encounter.{Parts}
use Rattle.acas_base.specs.Labels.{is_label, is_label_letter, is_sized}
use Rattle.acas_base.specs.declared.craft.CraftSpec.{CraftSpec}
use Rattle.acas_base.specs.declared.craft.Gains.{Gains}
use Rattle.acas_base.specs.declared.craft.Kind.{Kind}
use Rattle.acas_base.specs.declared.craft.Kind.TheVariants.{Ra, Ta, Xpdr}
use Rattle.acas_base.specs.declared.craft.Leg.{Leg}
use Rattle.acas_base.specs.declared.craft.Miss.{Miss}
use Rattle.acas_base.specs.declared.label.Call.{Call}
use Rattle.acas_base.specs.declared.link.CopyPlan.{CopyPlan}
use Rattle.acas_base.specs.declared.link.Fate.{Fate}
use Rattle.acas_base.specs.declared.link.LinkPlan.{LinkPlan}
use Rattle.acas_base.specs.declared.setting.Profile.{Profile}
use Rattle.acas_base.specs.declared.setting.Profile.TheVariants.{One, Two}
use Rattle.acas_text.specs.Hex.{hex}
use Rattle.plot_axes.specs.Clock.{clock_text}
use Rattle.enc_file.specs.Canonical.{IsLabelled, canonical_records}
use Rattle.enc_file.specs.Spelling.{number, kind_text, call_record, clock_records, name_records, profile_record, profile_records, header_record, run_record, gains_record, craft_record, climb_of, climb_records, leg_record, miss_record, copy_fields, plan_record, fate_record, end_record}
use Rattle.enc_file.proofs.LinesRead.{IsPlainByte, IsPlainField, IsReadable, AreReadable}

-- Words.

-- The digits, the letters and the sign come after the comma in ASCII, and the ends of a line before it.
after-comma : (c : ℕ) → 44 < c → IsPlainByte c
after-comma c h = record { no_comma = ne_eqb c 44 (λ e. omega arith); no_return = ne_eqb c 13 (λ e. omega arith); no_feed = ne_eqb c 10 (λ e. omega arith) }

word-plain : (word : List ℕ) → list_all (λ c. nat_lt 44 c) word ≡ true → IsPlainField word
word-plain [] e = tt
word-plain (c ∷ cs) e =
    let both = and_parts (nat_lt 44 c) (list_all (λ b. nat_lt 44 b) cs) e in
    (after-comma c (ltb-true 44 c both.0), word-plain cs both.1)

kind-plain : (kind : Kind) → IsPlainField (kind_text kind)
kind-plain Ra = word-plain (codes "RA") refl
kind-plain Ta = word-plain (codes "TA") refl
kind-plain Xpdr = word-plain (codes "XPDR") refl

-- Numbers.

glyph-after : (small upper : Bool) (d : ℕ) → 44 < (if small then 48 + d else (if upper then 55 + d else 87 + d))
glyph-after true upper d = omega arith
glyph-after false true d = omega arith
glyph-after false false d = omega arith

glyph-plain : (upper : Bool) (d : ℕ) → IsPlainByte (digit_glyph upper d)
glyph-plain upper d = after-comma (digit_glyph upper d) (glyph-after (nat_lt d 10) upper d)

either-plain : (b : Bool) (xs ys : List ℕ) → IsPlainField xs → IsPlainField ys → IsPlainField (if b then xs else ys)
either-plain true xs ys h k = h
either-plain false xs ys h k = k

digits-plain : (k base : ℕ) (upper : Bool) (n : ℕ) (rest : List ℕ) → IsPlainField rest → IsPlainField (digits_onto k base upper n rest)
digits-plain zero base upper n rest h = h
digits-plain (suc k) base upper n rest h =
    let more : List ℕ = digit_glyph upper (n % base) ∷ rest in
    let plain : IsPlainField more = (glyph-plain upper (n % base), h) in
    either-plain (n / base == 0) more (digits_onto k base upper (n / base) more) plain (digits-plain k base upper (n / base) more plain)

decimal-plain : (n : ℕ) → IsPlainField (decimal n)
unfolding digits
decimal-plain n = digits-plain 64 10 false n [] tt

signed-plain : (n : ℤ) → IsPlainField (signed_decimal n)
signed-plain (pos n) = decimal-plain n
signed-plain (negsuc n) = (after-comma 45 (omega arith), decimal-plain (suc n))

number-plain : (n : ℕ) → IsPlainField (number n)
number-plain n = signed-plain (pos n)

-- What holds of each element of two lists holds of each of both.
each-append : {X : Type 0} (P : X → Type 0) (xs ys : List X) → AllByRecursion P xs → AllByRecursion P ys → AllByRecursion P (xs ++ ys)
each-append P [] ys h k = k
each-append P (x ∷ xs) ys h k = (h.0, each-append P xs ys h.1 k)

hex-plain : (k n : ℕ) → IsPlainField (hex k n)
unfolding hex
hex-plain zero n = tt
hex-plain (suc k) n = each-append IsPlainByte (hex k (n / 16)) (digit_glyph true (n % 16) ∷ []) (hex-plain k (n / 16)) (glyph-plain true (n % 16), tt)

-- Labels and times of day.

letter-plain : (c : ℕ) → is_label_letter c ≡ true → IsPlainByte c
letter-plain c is = record {
  no_comma = ne_eqb c 44 (λ e. grind (arith, nat_tests, is, e));
  no_return = ne_eqb c 13 (λ e. grind (arith, nat_tests, is, e));
  no_feed = ne_eqb c 10 (λ e. grind (arith, nat_tests, is, e));
}

letters-plain : (text : List ℕ) → list_all is_label_letter text ≡ true → IsPlainField text
letters-plain [] is = tt
letters-plain (c ∷ cs) is =
    let both = and_parts (is_label_letter c) (list_all is_label_letter cs) is in
    (letter-plain c both.0, letters-plain cs both.1)

label-plain : (text : List ℕ) → is_label text ≡ true → IsPlainField text
unfolding is_label
label-plain text is = letters-plain text (and_parts (is_sized 60 text) (list_all is_label_letter text) is).1

digit-plain : (n : ℕ) → IsPlainByte (48 + n)
digit-plain n = after-comma (48 + n) (omega arith)

clock-plain : (second : ℕ) → IsPlainField (clock_text second)
unfolding clock_text
clock-plain second =
    let colon = after-comma 58 (omega arith) in (
      digit-plain (second / 3600 / 10 % 10),
      (
        digit-plain (second / 3600 % 10),
        (colon, (digit-plain (second / 60 % 60 / 10 % 10), (digit-plain (second / 60 % 60 % 10), (colon, (digit-plain (second % 60 / 10 % 10), (digit-plain (second % 60 % 10), tt)))))),
      ),
    )

-- Records.

profile-readable : (version : ℕ) (profile : Profile) → AreReadable (profile_records version profile)
profile-readable version profile = at (nat_le 3 version) profile where
  at : (b : Bool) (p : Profile) → AreReadable (if b then profile_record p ∷ [] else [])
  at false p = tt
  at true One = ((word-plain (codes "profile") refl, (word-plain (codes "1") refl, tt)), tt)
  at true Two = ((word-plain (codes "profile") refl, (word-plain (codes "2") refl, tt)), tt)

name-readable : (o : Option (List ℕ)) → IfSome o (λ text. IsTrue (is_label text)) → AreReadable (name_records o)
name-readable None h = tt
name-readable (Some text) h = ((word-plain (codes "name") refl, (label-plain text h, tt)), tt)

clock-readable : (o : Option ℕ) → AreReadable (clock_records o)
clock-readable None = tt
clock-readable (Some second) = ((word-plain (codes "clock") refl, (clock-plain second, tt)), tt)

calls-readable : (crafts : List CraftSpec) (calls : List Call) → AllByRecursion (λ (call : Call). IsTrue (is_label call.sign)) calls → AreReadable (map (call_record crafts) calls)
calls-readable crafts [] h = tt
calls-readable crafts (call ∷ calls) h = ((word-plain (codes "call") refl, (hex-plain 6 _, (label-plain call.sign h.0, tt))), calls-readable crafts calls h.1)

header-readable : (version : ℕ) → IsReadable (header_record version)
header-readable version = (word-plain (codes "encounter") refl, (number-plain version, tt))

run-readable : (cycles : ℕ) (elevation : ℤ) → IsReadable (run_record cycles elevation)
run-readable cycles elevation = (word-plain (codes "run") refl, (number-plain cycles, (signed-plain elevation, tt)))

gains-readable : (range altitude : Gains) → IsReadable (gains_record range altitude)
gains-readable range altitude = (word-plain (codes "gains") refl, (number-plain range.alpha, (number-plain range.beta, (number-plain altitude.alpha, (number-plain altitude.beta, tt)))))

craft-readable : (craft : CraftSpec) → IsReadable (craft_record craft)
craft-readable craft = (word-plain (codes "craft") refl, (hex-plain 6 craft.address, (kind-plain craft.kind, (signed-plain craft.x, (signed-plain craft.y, (signed-plain craft.alt, tt))))))

climb-readable : (n : ℕ) (limit : Option ℤ) → AreReadable (climb_of n limit)
climb-readable n None = tt
climb-readable n (Some limit) = ((word-plain (codes "climb") refl, (hex-plain 6 n, (signed-plain limit, tt))), tt)

climbs-readable : (crafts : List CraftSpec) → AreReadable (flat_map climb_records crafts)
climbs-readable [] = tt
climbs-readable (craft ∷ crafts) = each-append IsReadable (climb_records craft) (flat_map climb_records crafts) (climb-readable craft.address craft.ceiling) (climbs-readable crafts)

leg-readable : (crafts : List CraftSpec) (leg : Leg) → IsReadable (leg_record crafts leg)
leg-readable crafts leg = (word-plain (codes "leg") refl, (hex-plain 6 _, (number-plain leg.from, (signed-plain leg.vx, (signed-plain leg.vy, (signed-plain leg.vz, tt))))))

miss-readable : (crafts : List CraftSpec) (miss : Miss) → IsReadable (miss_record crafts miss)
miss-readable crafts miss = (word-plain (codes "miss") refl, (hex-plain 6 _, (hex-plain 6 _, (number-plain miss.from, (number-plain miss.to, tt)))))

copies-plain : (copies : List CopyPlan) → AllByRecursion IsPlainField (flat_map copy_fields copies)
copies-plain [] = tt
copies-plain (copy ∷ copies) = (number-plain copy.hold, (hex-plain 2 copy.mask, copies-plain copies))

plan-readable : (crafts : List CraftSpec) (plan : LinkPlan) → IsReadable (plan_record crafts plan)
plan-readable crafts plan = (word-plain (codes "plan") refl, (hex-plain 6 _, (hex-plain 6 _, copies-plain (take plan.copies (plan.first ∷ plan.second ∷ plan.third ∷ [])))))

fate-readable : (crafts : List CraftSpec) (fate : Fate) → IsReadable (fate_record crafts fate)
fate-readable crafts fate = (word-plain (codes "fate") refl, (hex-plain 6 _, (hex-plain 6 _, (number-plain fate.number, copies-plain (take fate.copies (fate.first ∷ fate.second ∷ fate.third ∷ []))))))

end-readable : IsReadable end_record
end-readable = (word-plain (codes "end") refl, tt)

-- Records, and then one for each element of a list.
more-readable : {X : Type 0} (rows : List (List (List ℕ))) (f : X → List (List ℕ)) (xs : List X) → AreReadable rows → ((x : X) → IsReadable (f x)) → AreReadable (rows ++ map f xs)
more-readable {X} rows f xs h k = each-append IsReadable rows (map f xs) h (all xs) where
  all : (ys : List X) → AreReadable (map f ys)
  all [] = tt
  all (y ∷ ys) = (k y, all ys)

pub canonical-readable : (e : Parts) → IsLabelled e → AreReadable (canonical_records e)
canonical-readable e labels =
    let front : List (List (List ℕ)) = header_record e.version ∷ [] in
    let numbers : List (List (List ℕ)) = run_record e.cycles e.elevation ∷ gains_record e.range e.altitude ∷ [] in
    let profile = each-append IsReadable front (profile_records e.version e.profile) (header-readable e.version, tt) (profile-readable e.version e.profile) in
    let with_profile : List (List (List ℕ)) = front ++ profile_records e.version e.profile in
    let name = each-append IsReadable with_profile (name_records e.name) profile (name-readable e.name labels.name) in
    let with_name : List (List (List ℕ)) = with_profile ++ name_records e.name in
    let clock = each-append IsReadable with_name (clock_records e.clock) name (clock-readable e.clock) in
    let with_clock : List (List (List ℕ)) = with_name ++ clock_records e.clock in
    let gains = each-append IsReadable with_clock numbers clock (run-readable e.cycles e.elevation, (gains-readable e.range e.altitude, tt)) in
    let with_gains : List (List (List ℕ)) = with_clock ++ numbers in
    let crafts = more-readable with_gains craft_record e.crafts gains craft-readable in
    let with_crafts : List (List (List ℕ)) = with_gains ++ map craft_record e.crafts in
    let signs = calls-readable e.crafts e.calls (recursion_from_All (λ (call : Call). IsTrue (is_label call.sign)) e.calls labels.signs) in
    let calls = each-append IsReadable with_crafts (map (call_record e.crafts) e.calls) crafts signs in
    let with_calls : List (List (List ℕ)) = with_crafts ++ map (call_record e.crafts) e.calls in
    let climbs = each-append IsReadable with_calls (flat_map climb_records e.crafts) calls (climbs-readable e.crafts) in
    let with_climbs : List (List (List ℕ)) = with_calls ++ flat_map climb_records e.crafts in
    let legs = more-readable with_climbs (leg_record e.crafts) e.legs climbs (leg-readable e.crafts) in
    let with_legs : List (List (List ℕ)) = with_climbs ++ map (leg_record e.crafts) e.legs in
    let misses = more-readable with_legs (miss_record e.crafts) e.misses legs (miss-readable e.crafts) in
    let with_misses : List (List (List ℕ)) = with_legs ++ map (miss_record e.crafts) e.misses in
    let plans = more-readable with_misses (plan_record e.crafts) e.plans misses (plan-readable e.crafts) in
    let with_plans : List (List (List ℕ)) = with_misses ++ map (plan_record e.crafts) e.plans in
    let fates = more-readable with_plans (fate_record e.crafts) e.fates plans (fate-readable e.crafts) in
    each-append IsReadable (with_plans ++ map (fate_record e.crafts) e.fates) (end_record ∷ []) fates (end-readable, tt)
