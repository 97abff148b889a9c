-- A text is refused as the rules' conditions say.
use Rattle.std.proofs.Common.{◌≡◌, ℕ, zero, suc, ◌+◌, Bool, true, false, ◌&&◌, not, List, [], ◌∷◌, length, Option, Some, None, refl, sym, ap, ◌∙◌, arith, inl, inr, ◌⊎◌, add-zero, ne_eqb, subst}
use Rattle.std.specs.Prelude.{◌==◌, ◌++◌, nat_le, is_some, codes, find, if◌then◌else◌, slice_get, take, Result, Ok, Err}
use Rattle.std.specs.Str.{bytes_eq}
use Rattle.std.proofs.lemmas.Option.{none-some, same_Some}
use Rattle.std.proofs.lemmas.Slice.Eq.{bytes_eq-Decides}
use Rattle.acas_base.specs.Encounter.{Parts}
use Rattle.enc_file.specs.Conditions.{ArePassed, IsLowestFault, IsRefused, RecordKind, RunKind, GainsKind, CraftKind, ClimbKind, LegKind, MissKind, PlanKind, FateKind, EndKind, ProfileKind, NameKind, ClockKind, CallKind, has_fault, kind_named, kind_word, said_by}
use Rattle.enc_file.specs.Earlier.{encounter_by, has_ended, version_of}
use Rattle.enc_file.specs.Faults.{fault_of}
use Rattle.enc_file.specs.Reading.{checked, goes_on, missing_after, next_record, read_from, refusal_after, unless_faulty}
use Rattle.enc_file.specs.Saying.{header_of, needs, record_of, version_in}
use Rattle.enc_file.specs.Values.{field}
use Rattle.enc_file.specs.declared.record.Record.{Record}
use Rattle.enc_file.specs.declared.record.Record.TheVariants as said
use Rattle.enc_file.specs.declared.refusal.Code.{Code}
use Rattle.enc_file.specs.declared.refusal.Code.TheVariants as code
use Rattle.enc_file.specs.declared.refusal.Refusal.{Refusal}
use Rattle.enc_file.proofs.LowestCode.{is-lowest, is-none, lowest-none, lowest-same, lowest-some, lowest_of, or_else}
use Rattle.enc_file.proofs.Stated.{AreSound}
use Rattle.enc_file.proofs.StatedKinds.{fault_by, fault_in, kind-told, read-by}

-- A name is a word, or the test of the two fails.
named-or : (name word : List ℕ) → (name ≡ word) ⊎ (bytes_eq name word ≡ false)
named-or name word = at (bytes_eq name word) refl where
  at : (b : Bool) → bytes_eq name word ≡ b → (name ≡ word) ⊎ (b ≡ false)
  at true is = inl ((bytes_eq-Decides name word).0 is)
  at false is = inr refl

abbrev pub kind-result : Option RecordKind → List (List ℕ) → Result Record Code
kind-result None fields = Err code.Kind
kind-result (Some kind) fields = read-by kind fields

abbrev of-third : Bool → List ℕ → List (List ℕ) → Result Record Code
of-third third name fields =
    if third && bytes_eq name (codes "profile") then read-by ProfileKind fields else
    if third && bytes_eq name (codes "name") then read-by NameKind fields else
    if third && bytes_eq name (codes "clock") then read-by ClockKind fields else
    if third && bytes_eq name (codes "call") then read-by CallKind fields else Err code.Kind

abbrev third_kinds : Bool → List RecordKind
third_kinds third = if third then ProfileKind ∷ NameKind ∷ ClockKind ∷ CallKind ∷ [] else []

abbrev by-name : Bool → Bool → List ℕ → List (List ℕ) → Result Record Code
by-name second third name fields =
    if bytes_eq name (codes "fate") then read-by FateKind fields else
    if bytes_eq name (codes "miss") then read-by MissKind fields else
    if bytes_eq name (codes "leg") then read-by LegKind fields else
    if bytes_eq name (codes "craft") then read-by CraftKind fields else
    if bytes_eq name (codes "run") then read-by RunKind fields else
    if bytes_eq name (codes "gains") then read-by GainsKind fields else
    if bytes_eq name (codes "end") then read-by EndKind fields else
    if second && bytes_eq name (codes "climb") then read-by ClimbKind fields else
    if second && bytes_eq name (codes "plan") then read-by PlanKind fields else of-third third name fields

abbrev kind_by : Bool → Bool → List ℕ → Option RecordKind
kind_by second third name =
    find (λ kind. bytes_eq name (kind_word kind)) (RunKind ∷ GainsKind ∷ CraftKind ∷ LegKind ∷ MissKind ∷ FateKind ∷ EndKind ∷ (if second then ClimbKind ∷ PlanKind ∷ [] else []) ++ third_kinds third)

-- A name of none of the first nine kinds.
third-name : (third : Bool) (name : List ℕ) (fields : List (List ℕ)) → of-third third name fields ≡ kind-result (find (λ kind. bytes_eq name (kind_word kind)) (third_kinds third)) fields
third-name false name fields = refl
third-name true name fields = at (bytes_eq name (codes "profile")) (bytes_eq name (codes "name")) (bytes_eq name (codes "clock")) (bytes_eq name (codes "call")) where
  at : (a b c d : Bool) → (if a then read-by ProfileKind fields else if b then read-by NameKind fields else if c then read-by ClockKind fields else if d then read-by CallKind fields else Err code.Kind)
      ≡ kind-result (if a then Some ProfileKind else if b then Some NameKind else if c then Some ClockKind else if d then Some CallKind else None) fields
  at true b c d = refl
  at false true c d = refl
  at false false true d = refl
  at false false false true = refl
  at false false false false = refl

-- A name of none of the first seven kinds.
later-name : (second third : Bool) (name : List ℕ) (fields : List (List ℕ))
    → (if second && bytes_eq name (codes "climb") then read-by ClimbKind fields else if second && bytes_eq name (codes "plan") then read-by PlanKind fields else of-third third name fields)
    ≡ kind-result (find (λ kind. bytes_eq name (kind_word kind)) ((if second then ClimbKind ∷ PlanKind ∷ [] else []) ++ third_kinds third)) fields
later-name false third name fields = third-name third name fields
later-name true third name fields = at (bytes_eq name (codes "climb")) (bytes_eq name (codes "plan")) (of-third third name fields) (find (λ kind. bytes_eq name (kind_word kind)) (third_kinds third)) (third-name third name fields) where
  at : (a b : Bool) (r : Result Record Code) (o : Option RecordKind) → r ≡ kind-result o fields
      → (if a then read-by ClimbKind fields else if b then read-by PlanKind fields else r) ≡ kind-result (if a then Some ClimbKind else if b then Some PlanKind else o) fields
  at true b r o same = refl
  at false true r o same = refl
  at false false r o same = same

name-told : (second third : Bool) (name : List ℕ) (fields : List (List ℕ)) → by-name second third name fields ≡ kind-result (kind_by second third name) fields
name-told second third name fields = elim (named-or name (codes "fate")) [
  | inl e ↦ rw e refl
  | inr a ↦ elim (named-or name (codes "miss")) [
    | inl e ↦ rw e refl
    | inr b ↦ elim (named-or name (codes "leg")) [
      | inl e ↦ rw e refl
      | inr c ↦ elim (named-or name (codes "craft")) [
        | inl e ↦ rw e refl
        | inr d ↦ elim (named-or name (codes "run")) [
          | inl e ↦ rw e refl
          | inr e ↦ elim (named-or name (codes "gains")) [
            | inl f ↦ rw f refl
            | inr f ↦ elim (named-or name (codes "end")) [
              | inl g ↦ rw g refl
              | inr g ↦ rw (a, b, c, d, e, f, g) (later-name second third name fields)
            ]
          ]
        ]
      ]
    ]
  ]
]

pub record-told : (version : ℕ) (fields : List (List ℕ)) → record_of version fields ≡ kind-result (kind_named version (field fields 0)) fields
unfolding record_of
record-told version fields = name-told (nat_le 2 version) (nat_le 3 version) (field fields 0) fields

-- The next record.

header-told : (o : Option ℕ) → fault_in (needs o code.Header (λ version. Ok (said.Header version))) ≡ or_else (not (is_some o)) code.Header None
header-told None = refl
header-told (Some version) = refl

first-told : (fields : List (List ℕ)) → fault_in (header_of fields) ≡ lowest_of (has_fault [] (Some fields))
unfolding has_fault
first-told fields = header-told (version_in fields)

ended-told : (last : Record) (before : List Record) (fields : List (List ℕ)) → has_ended (last ∷ before) ≡ true → Some code.After ≡ lowest_of (has_fault (last ∷ before) (Some fields))
unfolding has_fault
ended-told last before fields ended = rw ended refl

-- Its faults are those of its kind.
faults-by : (last : Record) (before : List Record) (fields : List (List ℕ)) (kind : RecordKind) → has_ended (last ∷ before) ≡ false → kind_named (version_of (last ∷ before)) (field fields 0) ≡ Some kind
    → (why : Code) → has_fault (last ∷ before) (Some fields) why ≡ fault_by (last ∷ before) kind fields why
unfolding has_fault
faults-by last before fields kind unended is code.Header = refl
faults-by last before fields kind unended is code.Kind = rw (unended, is) refl
faults-by last before fields kind unended is code.Fields = rw (unended, is) refl
faults-by last before fields kind unended is code.Number = rw (unended, is) refl
faults-by last before fields kind unended is code.Address = rw (unended, is) refl
faults-by last before fields kind unended is code.Repeat = rw (unended, is) refl
faults-by last before fields kind unended is code.Unknown = rw (unended, is) refl
faults-by last before fields kind unended is code.Count = rw (unended, is) refl
faults-by last before fields kind unended is code.Box = rw (unended, is) refl
faults-by last before fields kind unended is code.Mask = rw (unended, is) refl
faults-by last before fields kind unended is code.NoEnd = refl
faults-by last before fields kind unended is code.After = unended

unnamed-told : (last : Record) (before : List Record) (fields : List (List ℕ)) → has_ended (last ∷ before) ≡ false → kind_named (version_of (last ∷ before)) (field fields 0) ≡ None
    → Some code.Kind ≡ lowest_of (has_fault (last ∷ before) (Some fields))
unfolding has_fault
unnamed-told last before fields unended is = rw (unended, is) refl

going-told : (last : Record) (before : List Record) (fields : List (List ℕ)) (o : Option RecordKind) → AreSound (last ∷ before) → has_ended (last ∷ before) ≡ false
    → kind_named (version_of (last ∷ before)) (field fields 0) ≡ o → fault_in (checked (last ∷ before) (kind-result o fields)) ≡ lowest_of (has_fault (last ∷ before) (Some fields))
going-told last before fields None sound unended is = unnamed-told last before fields unended is
going-told last before fields (Some kind) sound unended is =
    kind-told (last ∷ before) kind fields sound
    ∙ sym (lowest-same (has_fault (last ∷ before) (Some fields)) (fault_by (last ∷ before) kind fields) (faults-by last before fields kind unended is))

later-told : (last : Record) (before : List Record) (fields : List (List ℕ)) (b : Bool) → AreSound (last ∷ before) → has_ended (last ∷ before) ≡ b
    → fault_in (if b then Err code.After else checked (last ∷ before) (record_of (version_of (last ∷ before)) fields)) ≡ lowest_of (has_fault (last ∷ before) (Some fields))
later-told last before fields true sound ended = ended-told last before fields ended
later-told last before fields false sound ended =
    ap (λ r. fault_in (checked (last ∷ before) r)) (record-told (version_of (last ∷ before)) fields)
    ∙ going-told last before fields (kind_named (version_of (last ∷ before)) (field fields 0)) sound ended refl

-- The next record is refused with its lowest fault.
next-told : (earlier : List Record) (fields : List (List ℕ)) → AreSound earlier → fault_in (next_record earlier fields) ≡ lowest_of (has_fault earlier (Some fields))
next-told [] fields sound = first-told fields
next-told (last ∷ before) fields sound = later-told last before fields (has_ended (last ∷ before)) sound refl

-- Where there is none, what is missing is told.
abbrev missing_in : Bool → ℕ → Option Code
missing_in ended count = if ended then None else Some (missing_after count)

missing-at : (ended : Bool) (count : ℕ) → (count == 0) ≡ false → missing_in ended count ≡ or_else (not ended) code.NoEnd None
missing-at true count some = refl
missing-at false count some = rw some refl

none-told : (earlier : List Record) → missing_in (has_ended earlier) (length earlier) ≡ lowest_of (has_fault earlier None)
unfolding has_fault
none-told [] = refl
none-told (last ∷ before) = missing-at (has_ended (last ∷ before)) (length (last ∷ before)) (ne_eqb (length (last ∷ before)) 0 (λ e. omega (arith, e)))

-- What a record says where it has no fault.

sound-of : (now : Record) (o : Option Code) (other : Record) → unless_faulty now o ≡ Ok other → (o ≡ None) × (now ≡ other)
sound-of now None other is = (refl, cc is)
sound-of now (Some why) other is = absurd (cc is)

checked-of : (earlier : List Record) (r : Result Record Code) (now : Record) → checked earlier r ≡ Ok now → (fault_of earlier now ≡ None) × (r ≡ Ok now)
checked-of earlier (Err why) now is = absurd (cc is)
checked-of earlier (Ok other) now is =
    let parts = sound-of other (fault_of earlier other) now is in
    (ap (fault_of earlier) (sym parts.1) ∙ parts.0, ap Ok parts.1)

header-of : (o : Option ℕ) (now : Record) → needs o code.Header (λ version. Ok (said.Header version)) ≡ Ok now → fault_of [] now ≡ None
header-of None now is = absurd (cc is)
header-of (Some version) (said.Header other) is = refl
header-of (Some version) (said.Run run) is = absurd (cc is)
header-of (Some version) (said.Gains gains) is = absurd (cc is)
header-of (Some version) (said.Craft craft) is = absurd (cc is)
header-of (Some version) (said.Climb address limit) is = absurd (cc is)
header-of (Some version) (said.Leg address course) is = absurd (cc is)
header-of (Some version) (said.Miss pair from to) is = absurd (cc is)
header-of (Some version) (said.Plan pair copies) is = absurd (cc is)
header-of (Some version) (said.Fate pair number copies) is = absurd (cc is)
header-of (Some version) said.End is = absurd (cc is)
header-of (Some version) (said.Profile profile) is = absurd (cc is)
header-of (Some version) (said.Name text) is = absurd (cc is)
header-of (Some version) (said.Clock second) is = absurd (cc is)
header-of (Some version) (said.Call address sign) is = absurd (cc is)

later-of : (last : Record) (before : List Record) (fields : List (List ℕ)) (b : Bool) (now : Record)
    → (if b then Err code.After else checked (last ∷ before) (record_of (version_of (last ∷ before)) fields)) ≡ Ok now → (fault_of (last ∷ before) now ≡ None) × (said_by (last ∷ before) fields ≡ Ok now)
later-of last before fields true now is = absurd (cc is)
later-of last before fields false now is = checked-of (last ∷ before) (record_of (version_of (last ∷ before)) fields) now is

next-of : (earlier : List Record) (fields : List (List ℕ)) (now : Record) → next_record earlier fields ≡ Ok now → (fault_of earlier now ≡ None) × (said_by earlier fields ≡ Ok now)
next-of [] fields now is = (header-of (version_in fields) now is, is)
next-of (last ∷ before) fields now is = later-of last before fields (has_ended (last ∷ before)) now is

-- From the reading to the conditions.

record RefusedFrom (earlier : List Record) (rows : List (List (List ℕ))) (refusal : Refusal) : Type 0 where
  more : ℕ
  all : List Record
  many : length all ≡ length earlier + more
  passed : ArePassed earlier (take more rows) all
  at : refusal.at ≡ length all + 1
  fault : IsLowestFault all (slice_get rows more) refusal.code

lowest-by : (earlier : List Record) (next : Option (List (List ℕ))) (why : Code) → lowest_of (has_fault earlier next) ≡ Some why → IsLowestFault earlier next why
lowest-by earlier next why is =
    let parts = lowest-some (has_fault earlier next) why is in
    record { faulty = parts.0; lowest = parts.1 }

abbrev refused : Refusal → Result Parts Refusal
refused refusal = Err refusal

err-same : (a b : Refusal) → refused a ≡ refused b → a ≡ b
err-same a b is = cc is

refused-here : (earlier : List Record) (rows : List (List (List ℕ))) (why : Code) (refusal : Refusal) → lowest_of (has_fault earlier (slice_get rows 0)) ≡ Some why → refusal_after (length earlier) why ≡ refusal
    → RefusedFrom earlier rows refusal
refused-here earlier rows why refusal lowest is = record {
  more = 0;
  all = earlier;
  many = sym (add-zero (length earlier));
  passed = refl;
  at = ap (λ (r : Refusal). r.at) (sym is);
  fault = subst (IsLowestFault earlier (slice_get rows 0)) (ap (λ (r : Refusal). r.code) is) (lowest-by earlier (slice_get rows 0) why lowest);
}

end-refused : (earlier : List Record) (b : Bool) (refusal : Refusal) → missing_in b (length earlier) ≡ lowest_of (has_fault earlier None)
    → (if b then Ok (encounter_by earlier) else Err (refusal_after (length earlier) (missing_after (length earlier)))) ≡ Err refusal → RefusedFrom earlier [] refusal
end-refused earlier true refusal told is = absurd (cc is)
end-refused earlier false refusal told is = refused-here earlier [] (missing_after (length earlier)) refusal (sym told) (err-same _ refusal is)

refused-step : (earlier : List Record) (fields : List (List ℕ)) (rest : List (List (List ℕ))) (refusal : Refusal) (r : Result Record Code) → fault_in r ≡ lowest_of (has_fault earlier (Some fields))
    → ((now : Record) → r ≡ Ok now → (said_by earlier fields ≡ Ok now) × (read_from (now ∷ earlier) rest ≡ Err refusal → RefusedFrom (now ∷ earlier) rest refusal))
    → goes_on (length earlier) r (λ now. read_from (now ∷ earlier) rest) ≡ Err refusal → RefusedFrom earlier (fields ∷ rest) refusal
refused-step earlier fields rest refusal (Err why) told later is = refused-here earlier (fields ∷ rest) why refusal (sym told) (err-same (refusal_after (length earlier) why) refusal is)
refused-step earlier fields rest refusal (Ok now) told later is =
    let step = later now refl in
    let from = step.1 is in
    record {
      more = suc from.more;
      all = from.all;
      many = from.many ∙ omega arith;
      passed = (lowest-none (has_fault earlier (Some fields)) (sym told), (now, step.0, from.passed));
      at = from.at;
      fault = from.fault;
    }

refused-from : (earlier : List Record) (rows : List (List (List ℕ))) (refusal : Refusal) → AreSound earlier → read_from earlier rows ≡ Err refusal → RefusedFrom earlier rows refusal
unfolding read_from
refused-from earlier [] refusal sound is = end-refused earlier (has_ended earlier) refusal (none-told earlier) is
refused-from earlier (fields ∷ rest) refusal sound is =
    refused-step earlier fields rest refusal (next_record earlier fields) (next-told earlier fields sound)
    (λ now next. ((next-of earlier fields now next).1, λ e. refused-from (now ∷ earlier) rest refusal (sound, (next-of earlier fields now next).0) e)) is

pub refused-by : (rows : List (List (List ℕ))) (refusal : Refusal) → read_from [] rows ≡ Err refusal → IsRefused rows refusal
refused-by rows refusal is =
    let from = refused-from [] rows refusal tt is in
    let n : from.more ≡ length from.all = sym (from.many ∙ omega arith) in
    record {
      earlier = from.all;
      passed = subst (λ k. ArePassed [] (take k rows) from.all) n from.passed;
      at = from.at;
      fault = subst (λ k. IsLowestFault from.all (slice_get rows k) refusal.code) n from.fault;
    }

-- From the conditions to the reading.

fine-next : (r : Result Record Code) (other : Option Code) → fault_in r ≡ None → (now : Record) × (r ≡ Ok now)
fine-next (Ok now) other is = (now, refl)
fine-next (Err why) other is = absurd (none-some why (sym is))

faulty-next : (r : Result Record Code) (why : Code) → fault_in r ≡ Some why → r ≡ Err why
faulty-next (Ok now) why is = absurd (none-some why is)
faulty-next (Err other) why is = ap Err (same_Some other why is)

abbrev read-as : Record → Result Record Code
read-as now = Ok now

ok-same : (a b : Record) → read-as a ≡ read-as b → a ≡ b
ok-same a b is = cc is

refusal-is : (refusal : Refusal) (count : ℕ) → refusal.at ≡ count + 1 → refusal_after count refusal.code ≡ refusal
refusal-is refusal count is = ap (λ n. record { at = n; code = refusal.code }) (sym is)

missing-is : (ended : Bool) (count : ℕ) (e : Parts) (why : Code) → missing_in ended count ≡ Some why → (if ended then Ok e else Err (refusal_after count (missing_after count))) ≡ Err (refusal_after count why)
missing-is true count e why is = absurd (none-some why is)
missing-is false count e why is = ap (λ w. Err (refusal_after count w)) (same_Some (missing_after count) why is)

lowest-of : (earlier : List Record) (next : Option (List (List ℕ))) (why : Code) → IsLowestFault earlier next why → lowest_of (has_fault earlier next) ≡ Some why
lowest-of earlier next why fault = is-lowest (has_fault earlier next) why fault.faulty fault.lowest

read-refused : (earlier : List Record) (rows : List (List (List ℕ))) (more : ℕ) (all : List Record) (refusal : Refusal) → AreSound earlier → length all ≡ length earlier + more
    → ArePassed earlier (take more rows) all → refusal.at ≡ length all + 1 → IsLowestFault all (slice_get rows more) refusal.code → read_from earlier rows ≡ Err refusal
unfolding read_from
read-refused earlier [] zero all refusal sound many passed at fault =
    missing-is (has_ended earlier) (length earlier) (encounter_by earlier) refusal.code
    (none-told earlier ∙ lowest-of earlier None refusal.code (subst (λ (a : List Record). IsLowestFault a None refusal.code) (sym passed) fault))
    ∙ ap Err (refusal-is refusal (length earlier) (at ∙ ap (λ (a : List Record). length a + 1) (sym passed)))
read-refused earlier [] (suc more) all refusal sound many passed at fault = absurd (omega (arith, ap length passed, many))
read-refused earlier (fields ∷ rest) zero all refusal sound many passed at fault =
    let here = lowest-of earlier (Some fields) refusal.code (subst (λ (a : List Record). IsLowestFault a (Some fields) refusal.code) (sym passed) fault) in
    ap (λ r. goes_on (length earlier) r (λ now. read_from (now ∷ earlier) rest)) (faulty-next (next_record earlier fields) refusal.code (next-told earlier fields sound ∙ here))
    ∙ ap Err (refusal-is refusal (length earlier) (at ∙ ap (λ (a : List Record). length a + 1) (sym passed)))
read-refused earlier (fields ∷ rest) (suc more) all refusal sound many passed at fault =
    let fine = fine-next (next_record earlier fields) None (next-told earlier fields sound ∙ is-none (has_fault earlier (Some fields)) passed.0) in
    let parts = next-of earlier fields fine.0 fine.1 in
    let same : fine.0 ≡ passed.1.0 = ok-same fine.0 passed.1.0 (sym parts.1 ∙ passed.1.1) in
    let later : ArePassed (fine.0 ∷ earlier) (take more rest) all = subst (λ now. ArePassed (now ∷ earlier) (take more rest) all) (sym same) passed.1.2 in
    ap (λ r. goes_on (length earlier) r (λ now. read_from (now ∷ earlier) rest)) fine.1
    ∙ read-refused (fine.0 ∷ earlier) rest more all refusal (sound, parts.0) (many ∙ omega arith) later at fault

pub refused-if : (rows : List (List (List ℕ))) (refusal : Refusal) → IsRefused rows refusal → read_from [] rows ≡ Err refusal
refused-if rows refusal is = read-refused [] rows (length is.earlier) is.earlier refusal tt (omega arith) is.passed is.at is.fault
