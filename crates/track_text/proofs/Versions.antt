-- The version of the records is what their header says.
use Rattle.std.proofs.Common.{◌≡◌, ◌∙◌, ℕ, zero, suc, ◌≤◌, Bool, true, false, List, [], ◌∷◌, length, take, Option, Some, None, refl, sym, ap, subst, arith}
use Rattle.std.specs.Prelude.{◌==◌, ◌&&◌, codes, if◌then◌else◌, slice_get, Ok}
use Rattle.std.specs.Str.{bytes_eq}
use Rattle.std.proofs.lemmas.Bool.{both_ways, false≢true}
use Rattle.std.proofs.lemmas.Option.{same_Some}
use Rattle.std.proofs.lemmas.Slice.Eq.{bytes_eq-Decides}
use Rattle.enc_file.specs.Conditions.{is_first}
use Rattle.enc_file.specs.Earlier.{version_of}
use Rattle.enc_file.specs.Saying.{needs}
use Rattle.enc_file.specs.Values.{field}
use Rattle.enc_file.specs.declared.record.Record.TheVariants as said
use Rattle.enc_file.specs.declared.refusal.Code.TheVariants as code
use Rattle.track_text.specs.Conditions.{ArePassed}
use Rattle.track_text.specs.Earlier.{shared_of}
use Rattle.track_text.specs.Saying.{version_in, version_named}
use Rattle.track_text.specs.declared.record.TrackRecord.{TrackRecord}
use Rattle.track_text.specs.declared.record.TrackRecord.TheVariants.{Shared, At}
use Rattle.track_text.proofs.TrackRows.{WasTold, was-told}

-- No later record changes it.
version-next : (last : TrackRecord) (before : List TrackRecord) (row : List (List ℕ)) (now : TrackRecord) → WasTold (last ∷ before) row now → version_of (shared_of (now ∷ last ∷ before)) ≡ version_of (shared_of (last ∷ before))
version-next last before row (At address point) is = refl
version-next last before row (Shared (said.Header version)) is = absurd is.2
version-next last before row (Shared (said.Run run)) is = refl
version-next last before row (Shared (said.Gains gains)) is = refl
version-next last before row (Shared (said.Craft craft)) is = refl
version-next last before row (Shared (said.Climb address limit)) is = refl
version-next last before row (Shared (said.Leg address course)) is = refl
version-next last before row (Shared (said.Miss pair from to)) is = refl
version-next last before row (Shared (said.Plan pair copies)) is = refl
version-next last before row (Shared (said.Fate pair number copies)) is = refl
version-next last before row (Shared (said.Profile profile)) is = refl
version-next last before row (Shared (said.Name text)) is = refl
version-next last before row (Shared (said.Clock second)) is = refl
version-next last before row (Shared (said.Call address sign)) is = refl
version-next last before row (Shared said.End) is = refl

passed-version : (last : TrackRecord) (before : List TrackRecord) (rows : List (List (List ℕ))) (all : List TrackRecord) → ArePassed (last ∷ before) rows all → version_of (shared_of all) ≡ version_of (shared_of (last ∷ before))
passed-version last before [] all passed = ap (λ (l : List TrackRecord). version_of (shared_of l)) (sym passed)
passed-version last before (row ∷ rows) all passed =
    passed-version passed.1.0 (last ∷ before) rows all passed.1.2 ∙ version-next last before row passed.1.0 (was-told (last ∷ before) row passed.1.0 passed.1.1)

header-version : (o : Option ℕ) (now : TrackRecord) → needs o code.Header (λ version. Ok (Shared (said.Header version))) ≡ Ok now → o ≡ Some (version_of (shared_of (now ∷ [])))
header-version None now is = absurd (cc is)
header-version (Some version) now is =
    let same : Shared (said.Header version) ≡ now = cc is in
    subst (λ (n : TrackRecord). Some version ≡ Some (version_of (shared_of (n ∷ [])))) same refl

-- The first of these rows is a header of this version.
pub record IsHeadedBy (rows : List (List (List ℕ))) (version : ℕ) : Type 0 where
  pub row : List (List ℕ)
  pub first : slice_get rows 0 ≡ Some row
  pub says : version_in row ≡ Some version

none-first : (earlier : List TrackRecord) → [] ≡ earlier → is_first (shared_of earlier) ≡ false → ⊥
none-first earlier none some = both_ways _ some (ap (λ (l : List TrackRecord). is_first (shared_of l)) (sym none))

pub headed-by : (rows : List (List (List ℕ))) (k : ℕ) (earlier : List TrackRecord) → ArePassed [] (take k rows) earlier → is_first (shared_of earlier) ≡ false → IsHeadedBy rows (version_of (shared_of earlier))
headed-by rows zero earlier passed some = absurd (none-first earlier passed some)
headed-by [] (suc k) earlier passed some = absurd (none-first earlier passed some)
headed-by (row ∷ rows) (suc k) earlier passed some = record {
  row = row;
  first = refl;
  says = header-version (version_in row) passed.1.0 passed.1.1 ∙ ap Some (sym (passed-version passed.1.0 [] (take k rows) earlier passed.1.2));
}

-- There are two versions.
named-late : (a b : Bool) (version : ℕ) → (if a then Some 2 else if b then Some 3 else None) ≡ Some version → 2 ≤ version
named-late true b version is = omega (arith, same_Some 2 version is)
named-late false true version is = omega (arith, same_Some 3 version is)
named-late false false version is = absurd (cc is)

version-if : (a : Bool) (o : Option ℕ) (version : ℕ) → (if a then o else None) ≡ Some version → o ≡ Some version
version-if true o version is = is
version-if false o version is = absurd (cc is)

version-word : (fields : List (List ℕ)) (version : ℕ) → version_in fields ≡ Some version → version_named (field fields 1) ≡ Some version
unfolding version_in
version-word fields version is = version-if (length fields == 2 && bytes_eq (field fields 0) (codes "tracks")) (version_named (field fields 1)) version is

pub version-late : (fields : List (List ℕ)) (version : ℕ) → version_in fields ≡ Some version → 2 ≤ version
version-late fields version is = named-late (bytes_eq (field fields 1) (codes "1")) (bytes_eq (field fields 1) (codes "2")) version (version-word fields version is)

-- Which one it is, by the word.
pub version-three : (fields : List (List ℕ)) (version : ℕ) → version_in fields ≡ Some version → bytes_eq (field fields 1) (codes "2") ≡ true → version ≡ 3
version-three fields version is two =
    let word : field fields 1 ≡ codes "2" = (bytes_eq-Decides (field fields 1) (codes "2")).0 two in
    sym (same_Some 3 version (ap version_named (sym word) ∙ version-word fields version is))

pub version-two : (fields : List (List ℕ)) (version : ℕ) → version_in fields ≡ Some version → bytes_eq (field fields 1) (codes "2") ≡ false → version ≡ 2
version-two fields version is two = by (bytes_eq (field fields 1) (codes "1")) (bytes_eq (field fields 1) (codes "2")) two (version-word fields version is) where
  by : (a b : Bool) → b ≡ false → (if a then Some 2 else if b then Some 3 else None) ≡ Some version → version ≡ 2
  by true b none named = sym (same_Some 2 version named)
  by false true none named = absurd (false≢true (sym none))
  by false false none named = absurd (cc named)
