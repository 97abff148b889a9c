-- What the first record of a refused text says, and the one before a record after the end.
use Rattle.std.proofs.Common.{◌≡◌, ◌∙◌, ◌≤◌, ℕ, zero, suc, ◌+◌, ◌-◌, Bool, true, false, ℤ, List, [], ◌∷◌, length, Option, Some, None, refl, sym, ap, subst, arith, eqb-true}
use Rattle.std.specs.Prelude.{◌==◌, if◌then◌else◌, codes, slice_get, take, Result, Ok, Err}
use Rattle.std.specs.Str.{bytes_eq}
use Rattle.std.proofs.lemmas.Bool.{false≢true}
use Rattle.std.proofs.lemmas.Slice.Eq.{bytes_eq-Decides}
use Rattle.enc_file.specs.Conditions.{ArePassed, HasNoFault, IsRefused, has_fault, is_first}
use Rattle.enc_file.specs.Earlier.{has_ended, version_of}
use Rattle.enc_file.specs.Saying.{call_of, climb_of, clock_of, craft_of, end_of, fate_of, gains_of, leg_of, miss_of, name_of, needs, plan_of, profile_of, record_of, run_of, version_in}
use Rattle.enc_file.specs.Values.{field}
use Rattle.acas_base.specs.declared.craft.CraftSpec.{CraftSpec}
use Rattle.acas_base.specs.declared.setting.Profile.{Profile}
use Rattle.enc_file.specs.declared.record.Addresses.{Addresses}
use Rattle.enc_file.specs.declared.record.Copies.{Copies}
use Rattle.enc_file.specs.declared.record.Course.{Course}
use Rattle.enc_file.specs.declared.record.Record.{Record}
use Rattle.enc_file.specs.declared.record.Record.TheVariants as said
use Rattle.enc_file.specs.declared.record.Run.{Run}
use Rattle.enc_file.specs.declared.record.TrackGains.{TrackGains}
use Rattle.enc_file.specs.declared.refusal.Code.{Code}
use Rattle.enc_file.specs.declared.refusal.Code.TheVariants as code
use Rattle.enc_file.specs.declared.refusal.Refusal.{Refusal}

-- No record after the header changes the format.
Keeps : Result Record Code → Type 0
Keeps (Err why) = Unit {0}
Keeps (Ok now) = (earlier : List Record) → version_of (now ∷ earlier) ≡ version_of earlier

keeps-needs : {X : Type 0} (o : Option X) (why : Code) (next : X → Result Record Code) → ((x : X) → Keeps (next x)) → Keeps (needs o why next)
unfolding Keeps
keeps-needs None why next h = tt
keeps-needs (Some x) why next h = h x

keeps-if : (b : Bool) (x y : Result Record Code) → Keeps x → Keeps y → Keeps (if b then x else y)
keeps-if true x y h k = h
keeps-if false x y h k = k

-- Each record but the header.
keeps-run : (x : Run) → Keeps (Ok (said.Run x))
unfolding Keeps
keeps-run x = λ earlier. refl

keeps-gains : (x : TrackGains) → Keeps (Ok (said.Gains x))
unfolding Keeps
keeps-gains x = λ earlier. refl

keeps-craft : (x : CraftSpec) → Keeps (Ok (said.Craft x))
unfolding Keeps
keeps-craft x = λ earlier. refl

keeps-climb : (a : ℕ) (x : ℤ) → Keeps (Ok (said.Climb a x))
unfolding Keeps
keeps-climb a x = λ earlier. refl

keeps-leg : (a : ℕ) (x : Course) → Keeps (Ok (said.Leg a x))
unfolding Keeps
keeps-leg a x = λ earlier. refl

keeps-miss : (p : Addresses) (a b : ℕ) → Keeps (Ok (said.Miss p a b))
unfolding Keeps
keeps-miss p a b = λ earlier. refl

keeps-plan : (p : Addresses) (x : Copies) → Keeps (Ok (said.Plan p x))
unfolding Keeps
keeps-plan p x = λ earlier. refl

keeps-fate : (p : Addresses) (n : ℕ) (x : Copies) → Keeps (Ok (said.Fate p n x))
unfolding Keeps
keeps-fate p n x = λ earlier. refl

keeps-profile : (x : Profile) → Keeps (Ok (said.Profile x))
unfolding Keeps
keeps-profile x = λ earlier. refl

keeps-name : (x : List ℕ) → Keeps (Ok (said.Name x))
unfolding Keeps
keeps-name x = λ earlier. refl

keeps-clock : (x : ℕ) → Keeps (Ok (said.Clock x))
unfolding Keeps
keeps-clock x = λ earlier. refl

keeps-call : (a : ℕ) (x : List ℕ) → Keeps (Ok (said.Call a x))
unfolding Keeps
keeps-call a x = λ earlier. refl

keeps-end : Keeps (Ok said.End)
unfolding Keeps
keeps-end = λ earlier. refl

keeps-fault : (why : Code) → Keeps (Err why)
unfolding Keeps
keeps-fault why = tt

run-keeps : (fields : List (List ℕ)) → Keeps (run_of fields)
unfolding run_of
run-keeps fields = search (keeps-if, keeps-needs, keeps-run, keeps-fault) depth 12

gains-keeps : (fields : List (List ℕ)) → Keeps (gains_of fields)
unfolding gains_of
gains-keeps fields = search (keeps-if, keeps-needs, keeps-gains, keeps-fault) depth 12

craft-keeps : (fields : List (List ℕ)) → Keeps (craft_of fields)
unfolding craft_of
craft-keeps fields = search (keeps-if, keeps-needs, keeps-craft, keeps-fault) depth 12

climb-keeps : (fields : List (List ℕ)) → Keeps (climb_of fields)
unfolding climb_of
climb-keeps fields = search (keeps-if, keeps-needs, keeps-climb, keeps-fault) depth 12

leg-keeps : (fields : List (List ℕ)) → Keeps (leg_of fields)
unfolding leg_of
leg-keeps fields = search (keeps-if, keeps-needs, keeps-leg, keeps-fault) depth 12

miss-keeps : (fields : List (List ℕ)) → Keeps (miss_of fields)
unfolding miss_of
miss-keeps fields = search (keeps-if, keeps-needs, keeps-miss, keeps-fault) depth 12

plan-keeps : (fields : List (List ℕ)) → Keeps (plan_of fields)
unfolding plan_of
plan-keeps fields = search (keeps-if, keeps-needs, keeps-plan, keeps-fault) depth 12

fate-keeps : (fields : List (List ℕ)) → Keeps (fate_of fields)
unfolding fate_of
fate-keeps fields = search (keeps-if, keeps-needs, keeps-fate, keeps-fault) depth 12

profile-keeps : (fields : List (List ℕ)) → Keeps (profile_of fields)
unfolding profile_of
profile-keeps fields = search (keeps-if, keeps-needs, keeps-profile, keeps-fault) depth 12

name-keeps : (fields : List (List ℕ)) → Keeps (name_of fields)
unfolding name_of
name-keeps fields = search (keeps-if, keeps-needs, keeps-name, keeps-fault) depth 12

clock-keeps : (fields : List (List ℕ)) → Keeps (clock_of fields)
unfolding clock_of
clock-keeps fields = search (keeps-if, keeps-needs, keeps-clock, keeps-fault) depth 12

call-keeps : (fields : List (List ℕ)) → Keeps (call_of fields)
unfolding call_of
call-keeps fields = search (keeps-if, keeps-needs, keeps-call, keeps-fault) depth 12

end-keeps : (fields : List (List ℕ)) → Keeps (end_of fields)
unfolding end_of
end-keeps fields = search (keeps-if, keeps-end, keeps-fault) depth 12

record-keeps : (version : ℕ) (fields : List (List ℕ)) → Keeps (record_of version fields)
unfolding record_of
record-keeps version fields = search (keeps-if, fate-keeps, leg-keeps, miss-keeps, craft-keeps, run-keeps, gains-keeps, end-keeps, climb-keeps, plan-keeps, profile-keeps, name-keeps, clock-keeps, call-keeps, keeps-fault) depth 18

keeps-known : (r : Result Record Code) (now : Record) → Keeps r → r ≡ Ok now → (earlier : List Record) → version_of (now ∷ earlier) ≡ version_of earlier
unfolding Keeps
keeps-known (Err why) now h e = absurd (cc e)
keeps-known (Ok other) now h e =
    let same : other ≡ now = cc e in
    subst (λ (x : Record). (earlier : List Record) → version_of (x ∷ earlier) ≡ version_of earlier) same h

version-kept : (last : Record) (earlier : List Record) (rows : List (List (List ℕ))) (all : List Record) → ArePassed (last ∷ earlier) rows all → version_of all ≡ version_of (last ∷ earlier)
version-kept last earlier [] all passed = ap version_of (sym passed)
version-kept last earlier (fields ∷ rest) all passed =
    let now = passed.1.0 in
    version-kept now (last ∷ earlier) rest all passed.1.2
    ∙ keeps-known (record_of (version_of (last ∷ earlier)) fields) now (record-keeps (version_of (last ∷ earlier)) fields) passed.1.1 (last ∷ earlier)

-- The first record is the header of the format.
abbrev pub IsFirst : List (List (List ℕ)) → List Record → Type 0
IsFirst rows all = (fields : List (List ℕ)) × (slice_get rows 0 ≡ Some fields) × (version_in fields ≡ Some (version_of all))

header-by : (o : Option ℕ) (now : Record) → needs o code.Header (λ version. Ok (said.Header version)) ≡ Ok now → o ≡ Some (version_of (now ∷ []))
header-by None now h = absurd (cc h)
header-by (Some version) now h =
    let same : said.Header version ≡ now = cc h in
    ap (λ (x : Record). Some (version_of (x ∷ []))) same

first-passed : (n : ℕ) (rows : List (List (List ℕ))) (all : List Record) → is_first all ≡ false → ArePassed [] (take n rows) all → IsFirst rows all
first-passed zero rows [] first passed = absurd (false≢true (sym first))
first-passed zero rows (last ∷ before) first passed = absurd (cc passed)
first-passed (suc n) [] [] first passed = absurd (false≢true (sym first))
first-passed (suc n) [] (last ∷ before) first passed = absurd (cc passed)
first-passed (suc n) (fields ∷ rest) all first passed =
    (fields, refl, header-by (version_in fields) passed.1.0 passed.1.1 ∙ ap Some (sym (version-kept passed.1.0 [] (take n rest) all passed.1.2)))

pub refused-first : (rows : List (List (List ℕ))) (refusal : Refusal) (r : IsRefused rows refusal) → is_first r.earlier ≡ false → IsFirst rows r.earlier
refused-first rows refusal r first = first-passed (length r.earlier) rows r.earlier first r.passed

-- Only the record `end` ends a text.
pub Ends : List (List ℕ) → Result Record Code → Type 0
Ends fields (Err why) = Unit {0}
Ends fields (Ok now) = (earlier : List Record) → has_ended earlier ≡ false → has_ended (now ∷ earlier) ≡ true → fields ≡ codes "end" ∷ []

ends-needs : {X : Type 0} (fields : List (List ℕ)) (o : Option X) (why : Code) (next : X → Result Record Code) → ((x : X) → Ends fields (next x)) → Ends fields (needs o why next)
unfolding Ends
ends-needs fields None why next h = tt
ends-needs fields (Some x) why next h = h x

ends-if : (fields : List (List ℕ)) (b : Bool) (x y : Result Record Code) → Ends fields x → Ends fields y → Ends fields (if b then x else y)
ends-if fields true x y h k = h
ends-if fields false x y h k = k

never : {X : Type 0} (b : Bool) → b ≡ false → b ≡ true → X
never b e f = absurd (false≢true (sym e ∙ f))

-- Each record but the end.
ends-run : (fields : List (List ℕ)) (x : Run) → Ends fields (Ok (said.Run x))
unfolding Ends
ends-run fields x = λ earlier e f. never (has_ended earlier) e f

ends-gains : (fields : List (List ℕ)) (x : TrackGains) → Ends fields (Ok (said.Gains x))
unfolding Ends
ends-gains fields x = λ earlier e f. never (has_ended earlier) e f

ends-craft : (fields : List (List ℕ)) (x : CraftSpec) → Ends fields (Ok (said.Craft x))
unfolding Ends
ends-craft fields x = λ earlier e f. never (has_ended earlier) e f

ends-climb : (fields : List (List ℕ)) (a : ℕ) (x : ℤ) → Ends fields (Ok (said.Climb a x))
unfolding Ends
ends-climb fields a x = λ earlier e f. never (has_ended earlier) e f

ends-leg : (fields : List (List ℕ)) (a : ℕ) (x : Course) → Ends fields (Ok (said.Leg a x))
unfolding Ends
ends-leg fields a x = λ earlier e f. never (has_ended earlier) e f

ends-miss : (fields : List (List ℕ)) (p : Addresses) (a b : ℕ) → Ends fields (Ok (said.Miss p a b))
unfolding Ends
ends-miss fields p a b = λ earlier e f. never (has_ended earlier) e f

ends-plan : (fields : List (List ℕ)) (p : Addresses) (x : Copies) → Ends fields (Ok (said.Plan p x))
unfolding Ends
ends-plan fields p x = λ earlier e f. never (has_ended earlier) e f

ends-fate : (fields : List (List ℕ)) (p : Addresses) (n : ℕ) (x : Copies) → Ends fields (Ok (said.Fate p n x))
unfolding Ends
ends-fate fields p n x = λ earlier e f. never (has_ended earlier) e f

ends-profile : (fields : List (List ℕ)) (x : Profile) → Ends fields (Ok (said.Profile x))
unfolding Ends
ends-profile fields x = λ earlier e f. never (has_ended earlier) e f

ends-name : (fields : List (List ℕ)) (x : List ℕ) → Ends fields (Ok (said.Name x))
unfolding Ends
ends-name fields x = λ earlier e f. never (has_ended earlier) e f

ends-clock : (fields : List (List ℕ)) (x : ℕ) → Ends fields (Ok (said.Clock x))
unfolding Ends
ends-clock fields x = λ earlier e f. never (has_ended earlier) e f

ends-call : (fields : List (List ℕ)) (a : ℕ) (x : List ℕ) → Ends fields (Ok (said.Call a x))
unfolding Ends
ends-call fields a x = λ earlier e f. never (has_ended earlier) e f

ends-fault : (fields : List (List ℕ)) (why : Code) → Ends fields (Err why)
unfolding Ends
ends-fault fields why = tt

run-ends : (fields : List (List ℕ)) → Ends fields (run_of fields)
unfolding run_of
run-ends fields = search (ends-if, ends-needs, ends-run, ends-fault) depth 12

gains-ends : (fields : List (List ℕ)) → Ends fields (gains_of fields)
unfolding gains_of
gains-ends fields = search (ends-if, ends-needs, ends-gains, ends-fault) depth 12

craft-ends : (fields : List (List ℕ)) → Ends fields (craft_of fields)
unfolding craft_of
craft-ends fields = search (ends-if, ends-needs, ends-craft, ends-fault) depth 12

climb-ends : (fields : List (List ℕ)) → Ends fields (climb_of fields)
unfolding climb_of
climb-ends fields = search (ends-if, ends-needs, ends-climb, ends-fault) depth 12

leg-ends : (fields : List (List ℕ)) → Ends fields (leg_of fields)
unfolding leg_of
leg-ends fields = search (ends-if, ends-needs, ends-leg, ends-fault) depth 12

miss-ends : (fields : List (List ℕ)) → Ends fields (miss_of fields)
unfolding miss_of
miss-ends fields = search (ends-if, ends-needs, ends-miss, ends-fault) depth 12

plan-ends : (fields : List (List ℕ)) → Ends fields (plan_of fields)
unfolding plan_of
plan-ends fields = search (ends-if, ends-needs, ends-plan, ends-fault) depth 12

fate-ends : (fields : List (List ℕ)) → Ends fields (fate_of fields)
unfolding fate_of
fate-ends fields = search (ends-if, ends-needs, ends-fate, ends-fault) depth 12

profile-ends : (fields : List (List ℕ)) → Ends fields (profile_of fields)
unfolding profile_of
profile-ends fields = search (ends-if, ends-needs, ends-profile, ends-fault) depth 12

name-ends : (fields : List (List ℕ)) → Ends fields (name_of fields)
unfolding name_of
name-ends fields = search (ends-if, ends-needs, ends-name, ends-fault) depth 12

clock-ends : (fields : List (List ℕ)) → Ends fields (clock_of fields)
unfolding clock_of
clock-ends fields = search (ends-if, ends-needs, ends-clock, ends-fault) depth 12

call-ends : (fields : List (List ℕ)) → Ends fields (call_of fields)
unfolding call_of
call-ends fields = search (ends-if, ends-needs, ends-call, ends-fault) depth 12

only-field : (fields : List (List ℕ)) → length fields ≡ 1 → field fields 0 ≡ codes "end" → fields ≡ codes "end" ∷ []
only-field [] n e = absurd (omega (arith, n))
only-field (f ∷ []) n e = ap (λ (g : List ℕ). g ∷ []) e
only-field (f ∷ g ∷ gs) n e = absurd (omega (arith, n))

end-ends : (b c : Bool) (fields : List (List ℕ)) (y : Result Record Code) → (length fields == 1) ≡ b → bytes_eq (field fields 0) (codes "end") ≡ c → Ends fields y → Ends fields (if c then (if b then Ok said.End else Err code.Fields) else y)
unfolding Ends
end-ends true true fields y one name h = λ earlier e f. only-field fields (eqb-true (length fields) 1 one) ((bytes_eq-Decides (field fields 0) (codes "end")).0 name)
end-ends false true fields y one name h = tt
end-ends true false fields y one name h = h
end-ends false false fields y one name h = h

pub record-ends : (version : ℕ) (fields : List (List ℕ)) → Ends fields (record_of version fields)
unfolding record_of end_of
record-ends version fields =
    let last = end-ends (length fields == 1) (bytes_eq (field fields 0) (codes "end")) fields in
    search (ends-if, fate-ends, leg-ends, miss-ends, craft-ends, run-ends, gains-ends, climb-ends, plan-ends, profile-ends, name-ends, clock-ends, call-ends, ends-fault, last) depth 18

pub ends-known : (fields : List (List ℕ)) (r : Result Record Code) (now : Record) → Ends fields r → r ≡ Ok now → (earlier : List Record) → has_ended earlier ≡ false → has_ended (now ∷ earlier) ≡ true → fields ≡ codes "end" ∷ []
unfolding Ends
ends-known fields (Err why) now h e = absurd (cc e)
ends-known fields (Ok other) now h e =
    let same : other ≡ now = cc e in
    subst (λ (x : Record). (earlier : List Record) → has_ended earlier ≡ false → has_ended (x ∷ earlier) ≡ true → fields ≡ codes "end" ∷ []) same h

-- A record is fine only before the end.
fine-before : (last : Record) (earlier : List Record) (fields : List (List ℕ)) → HasNoFault (last ∷ earlier) (Some fields) → has_ended (last ∷ earlier) ≡ false
unfolding has_fault
fine-before last earlier fields fine = fine code.After

-- The last record that was passed is `end`, where the text has ended.
last-passed : (last : Record) (earlier : List Record) (rows : List (List (List ℕ))) (all : List Record) → has_ended (last ∷ earlier) ≡ false → has_ended all ≡ true → ArePassed (last ∷ earlier) rows all
    → slice_get rows (length rows - 1) ≡ Some (codes "end" ∷ [])
last-passed last earlier [] all unended ended passed = never (has_ended (last ∷ earlier)) unended (ap has_ended passed ∙ ended)
last-passed last earlier (fields ∷ []) all unended ended passed =
    let now = passed.1.0 in
    ap Some (ends-known fields (record_of (version_of (last ∷ earlier)) fields) now (record-ends (version_of (last ∷ earlier)) fields) passed.1.1 (last ∷ earlier) unended (ap has_ended passed.1.2 ∙ ended))
last-passed last earlier (fields ∷ more ∷ rest) all unended ended passed =
    let now = passed.1.0 in
    let size : length (fields ∷ more ∷ rest) - 1 ≡ suc (length (more ∷ rest) - 1) = omega arith in
    rw size (last-passed now (last ∷ earlier) (more ∷ rest) all (fine-before now (last ∷ earlier) more passed.1.2.0) ended passed.1.2)

header-unended : (o : Option ℕ) (now : Record) → needs o code.Header (λ version. Ok (said.Header version)) ≡ Ok now → has_ended (now ∷ []) ≡ false
header-unended None now h = absurd (cc h)
header-unended (Some version) now h =
    let same : said.Header version ≡ now = cc h in
    ap (λ (x : Record). has_ended (x ∷ [])) (sym same)

passed-end : (rows : List (List (List ℕ))) (all : List Record) → has_ended all ≡ true → ArePassed [] rows all → slice_get rows (length rows - 1) ≡ Some (codes "end" ∷ [])
passed-end [] all ended passed = absurd (false≢true (ap has_ended passed ∙ ended))
passed-end (fields ∷ []) all ended passed = never _ (header-unended (version_in fields) passed.1.0 passed.1.1) (ap has_ended passed.1.2 ∙ ended)
passed-end (fields ∷ more ∷ rest) all ended passed =
    let size : length (fields ∷ more ∷ rest) - 1 ≡ suc (length (more ∷ rest) - 1) = omega arith in
    rw size (last-passed passed.1.0 [] (more ∷ rest) all (header-unended (version_in fields) passed.1.0 passed.1.1) ended passed.1.2)

passed-size : (earlier : List Record) (rows : List (List (List ℕ))) (all : List Record) → ArePassed earlier rows all → length all ≡ length earlier + length rows
passed-size earlier [] all passed = omega (arith, ap length passed)
passed-size earlier (fields ∷ rest) all passed = omega (arith, passed-size (passed.1.0 ∷ earlier) rest all passed.1.2)

of-front : (n : ℕ) (rows : List (List (List ℕ))) (k : ℕ) (fields : List (List ℕ)) → slice_get (take n rows) k ≡ Some fields → slice_get rows k ≡ Some fields
of-front zero [] k fields h = h
of-front zero (r ∷ rs) k fields h = absurd (cc h)
of-front (suc n) [] k fields h = h
of-front (suc n) (r ∷ rs) zero fields h = h
of-front (suc n) (r ∷ rs) (suc k) fields h = of-front n rs k fields h

pub refused-end : (rows : List (List (List ℕ))) (refusal : Refusal) (r : IsRefused rows refusal) → has_ended r.earlier ≡ true → slice_get rows (length r.earlier - 1) ≡ Some (codes "end" ∷ [])
refused-end rows refusal r ended =
    let front = take (length r.earlier) rows in
    let size : length front ≡ length r.earlier = omega (arith, passed-size [] front r.earlier r.passed) in
    of-front (length r.earlier) rows (length r.earlier - 1) (codes "end" ∷ []) (subst (λ n. slice_get front (n - 1) ≡ Some (codes "end" ∷ [])) size (passed-end front r.earlier ended r.passed))

some-ended : (earlier : List Record) → has_ended earlier ≡ true → 1 ≤ length earlier
some-ended [] h = absurd (false≢true h)
some-ended (last ∷ before) h = omega arith

-- A text that has ended has a record.
pub refused-some : (rows : List (List (List ℕ))) (refusal : Refusal) (r : IsRefused rows refusal) → has_ended r.earlier ≡ true → 1 ≤ length r.earlier
refused-some rows refusal r ended = some-ended r.earlier ended
