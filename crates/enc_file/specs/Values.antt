-- What the fields of a record say.
use Rattle.std.specs.Prelude.{ℕ, ◌+◌, ◌==◌, ◌&&◌, nat_le, nat_lt, if◌then◌else◌, Bool, ℤ, pos, int_le, unsigned_abs, List, [], slice_index_or, codes, Option, Some, None, option_map}
use Rattle.std.specs.Fmt.{signed_decimal}
use Rattle.std.specs.Option.{option_and_then}
use Rattle.std.specs.Str.{bytes_eq}
use Rattle.std.specs.Str.Parse.{digits_value, signed_digits_value}
use Rattle.acas_base.specs.Encounter.{plain_copy}
use Rattle.acas_base.specs.Labels.{is_call_sign, is_label}
use Rattle.acas_base.specs.declared.craft.Kind.{Kind}
use Rattle.acas_base.specs.declared.craft.Kind.TheVariants.{Ra, Ta, Xpdr}
use Rattle.acas_base.specs.declared.link.CopyPlan.{CopyPlan}
use Rattle.acas_base.specs.declared.setting.Profile.{Profile}
use Rattle.acas_base.specs.declared.setting.Profile.TheVariants.{One, Two}
use Rattle.acas_text.specs.Hex.{hex}
use Rattle.enc_file.specs.declared.record.Copies.{Copies}

-- The field at a place, from 0; an empty one past the last.
abbrev pub field : List (List ℕ) → ℕ → List ℕ
field fields i = slice_index_or fields i []

-- A value, where it passes a test.
abbrev pub passing : {X : Type 0} → (X → Bool) → Option X → Option X
passing test None = None
passing test (Some x) = if test x then Some x else None

-- A value, where these bytes are its text.
abbrev pub if_spelled : {X : Type 0} → (X → List ℕ) → List ℕ → X → Option X
if_spelled text bytes x = if bytes_eq (text x) bytes then Some x else None

-- The number from low to high whose plain decimal the field is.
unfoldable pub number_in : ℤ → ℤ → List ℕ → Option ℤ
number_in low high bytes = passing (λ n. int_le low n && int_le n high) (if_spelled signed_decimal bytes (signed_digits_value 10 bytes))

unfoldable pub count_in : ℕ → ℕ → List ℕ → Option ℕ
count_in low high bytes = option_map unsigned_abs (number_in (pos low) (pos high) bytes)

-- The address that the field spells in six digits 0-9A-F: neither 000000 nor FFFFFF.
unfoldable pub address_in : List ℕ → Option ℕ
address_in bytes = passing (λ n. nat_le 1 n && nat_le n 16777214) (if_spelled (hex 6) bytes (digits_value 16 bytes))

-- The mask that the field spells in two digits.
unfoldable pub mask_in : List ℕ → Option ℕ
mask_in bytes = passing (λ n. nat_lt n 256) (if_spelled (hex 2) bytes (digits_value 16 bytes))

abbrev pub kind_in : List ℕ → Option Kind
kind_in bytes =
    if bytes_eq bytes (codes "RA") then Some Ra else
    if bytes_eq bytes (codes "TA") then Some Ta else
    if bytes_eq bytes (codes "XPDR") then Some Xpdr else None

-- The profile whose number a field is.
abbrev pub profile_in : List ℕ → Option Profile
profile_in bytes =
    if bytes_eq bytes (codes "1") then Some One else
    if bytes_eq bytes (codes "2") then Some Two else None

-- A text, where it is a label, and where it is a call sign.
abbrev pub label_in : List ℕ → Option (List ℕ)
label_in bytes = if is_label bytes then Some bytes else None

abbrev pub sign_in : List ℕ → Option (List ℕ)
sign_in bytes = if is_call_sign bytes then Some bytes else None

-- A copy: the commits for which it is held back, and the mask.
abbrev pub copy_in : List ℕ → List ℕ → Option CopyPlan
copy_in held masked = option_and_then (λ hold. option_map (λ mask. record { hold = hold; mask = mask }) (mask_in masked)) (count_in 0 60 held)

-- The copy with a number, from 0, among `count` copies that stand from a place on. It is zero past the last copy.
abbrev pub copy_from : List (List ℕ) → ℕ → ℕ → ℕ → Option CopyPlan
copy_from fields start count n =
    if nat_le count n then Some plain_copy else copy_in (field fields (start + (n + n))) (field fields (start + (n + n + 1)))

abbrev pub copies_from : List (List ℕ) → ℕ → ℕ → Option Copies
copies_from fields start count =
    option_and_then (λ first.
    option_and_then (λ second.
    option_map (λ third. record { count = count; first = first; second = second; third = third })
    (copy_from fields start count 2)) (copy_from fields start count 1)) (copy_from fields start count 0)

-- How many copies a record of `fields` fields has, from a place on: none to three, with two fields each.
abbrev pub copies_count : ℕ → ℕ → Option ℕ
copies_count start fields =
    if fields == start then Some 0 else
    if fields == start + 2 then Some 1 else
    if fields == start + 4 then Some 2 else
    if fields == start + 6 then Some 3 else None
