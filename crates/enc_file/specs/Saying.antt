-- What a record says by itself. Numbers are read before addresses, so that the fault with the lowest code is reported.
use Rattle.std.specs.Prelude.{ℕ, ◌==◌, ◌&&◌, nat_le, nat_lt, if◌then◌else◌, ℤ, pos, neg_ℤ, List, length, codes, Option, Some, None, Result, Ok, Err}
use Rattle.std.specs.Str.{bytes_eq}
use Rattle.enc_file.specs.Clock.{clock_in}
use Rattle.enc_file.specs.Values.{address_in, copies_count, copies_from, count_in, field, kind_in, label_in, number_in, profile_in, sign_in}
use Rattle.enc_file.specs.declared.record.Addresses.{Addresses}
use Rattle.enc_file.specs.declared.record.Record.{Record}
use Rattle.enc_file.specs.declared.record.Record.TheVariants as said
use Rattle.enc_file.specs.declared.refusal.Code.{Code}
use Rattle.enc_file.specs.declared.refusal.Code.TheVariants as code

-- Goes on with something that has to be there. Where it isn't, gives the code of what is wrong.
abbrev pub needs : {X Y : Type 0} → Option X → Code → (X → Result Y Code) → Result Y Code
needs None why next = Err why
needs (Some x) why next = next x

-- A number that has to be there.
abbrev pub needs_number : {Y : Type 0} → List (List ℕ) → ℕ → ℕ → ℕ → (ℤ → Result Y Code) → Result Y Code
needs_number fields place low high next = needs (number_in (neg_ℤ (pos low)) (pos high) (field fields place)) code.Number next

abbrev pub needs_count : {Y : Type 0} → List (List ℕ) → ℕ → ℕ → ℕ → (ℕ → Result Y Code) → Result Y Code
needs_count fields place low high next = needs (count_in low high (field fields place)) code.Number next

abbrev pub needs_address : {Y : Type 0} → List (List ℕ) → ℕ → (ℕ → Result Y Code) → Result Y Code
needs_address fields place next = needs (address_in (field fields place)) code.Address next

-- A record of `count` fields.
abbrev pub with_fields : List (List ℕ) → ℕ → Result Record Code → Result Record Code
with_fields fields count what = if length fields == count then what else Err code.Fields

-- The version of the format that a header says.
unfoldable pub version_in : List (List ℕ) → Option ℕ
version_in fields = if length fields == 2 && bytes_eq (field fields 0) (codes "encounter") then count_in 1 3 (field fields 1) else None

-- The first record.
abbrev pub header_of : List (List ℕ) → Result Record Code
header_of fields = needs (version_in fields) code.Header (λ version. Ok (said.Header version))

unfoldable pub run_of : List (List ℕ) → Result Record Code
run_of fields =
    with_fields fields 3 (
    needs_count fields 1 1 600 (λ cycles.
    needs_number fields 2 1000 15000 (λ elevation.
    Ok (said.Run (record { cycles = cycles; elevation = elevation })))))

unfoldable pub gains_of : List (List ℕ) → Result Record Code
gains_of fields =
    with_fields fields 5 (
    needs_count fields 1 0 1024 (λ range_alpha.
    needs_count fields 2 0 1024 (λ range_beta.
    needs_count fields 3 0 1024 (λ altitude_alpha.
    needs_count fields 4 0 1024 (λ altitude_beta.
    Ok (said.Gains (record { range = record { alpha = range_alpha; beta = range_beta }; altitude = record { alpha = altitude_alpha; beta = altitude_beta } })))))))

unfoldable pub craft_of : List (List ℕ) → Result Record Code
craft_of fields =
    with_fields fields 6 (
    needs (kind_in (field fields 2)) code.Number (λ kind.
    needs_number fields 3 1000000 1000000 (λ x.
    needs_number fields 4 1000000 1000000 (λ y.
    needs_number fields 5 1000 60000 (λ alt.
    needs_address fields 1 (λ address.
    Ok (said.Craft (record { address = address; kind = kind; x = x; y = y; alt = alt; ceiling = None }))))))))

unfoldable pub climb_of : List (List ℕ) → Result Record Code
climb_of fields =
    with_fields fields 3 (
    needs_number fields 2 1000 60000 (λ limit.
    needs_address fields 1 (λ address.
    Ok (said.Climb address limit))))

unfoldable pub leg_of : List (List ℕ) → Result Record Code
leg_of fields =
    with_fields fields 6 (
    needs_count fields 2 1 600 (λ from.
    needs_number fields 3 2000 2000 (λ vx.
    needs_number fields 4 2000 2000 (λ vy.
    needs_number fields 5 10000 10000 (λ vz.
    needs_address fields 1 (λ address.
    Ok (said.Leg address (record { from = from; vx = vx; vy = vy; vz = vz }))))))))

-- The two addresses after the kind.
abbrev pub needs_pair : List (List ℕ) → (Addresses → Result Record Code) → Result Record Code
needs_pair fields next = needs_address fields 1 (λ first. needs_address fields 2 (λ second. next (record { first = first; second = second })))

unfoldable pub miss_of : List (List ℕ) → Result Record Code
miss_of fields =
    with_fields fields 5 (
    needs_count fields 3 1 600 (λ from.
    needs_count fields 4 1 600 (λ to.
    if nat_lt to from then Err code.Number else needs_pair fields (λ pair. Ok (said.Miss pair from to)))))

unfoldable pub plan_of : List (List ℕ) → Result Record Code
plan_of fields =
    needs (copies_count 3 (length fields)) code.Fields (λ count.
    needs (copies_from fields 3 count) code.Number (λ copies.
    needs_pair fields (λ pair.
    Ok (said.Plan pair copies))))

unfoldable pub fate_of : List (List ℕ) → Result Record Code
fate_of fields =
    needs (copies_count 4 (length fields)) code.Fields (λ count.
    needs_count fields 3 1 600 (λ number.
    needs (copies_from fields 4 count) code.Number (λ copies.
    needs_pair fields (λ pair.
    Ok (said.Fate pair number copies)))))

unfoldable pub profile_of : List (List ℕ) → Result Record Code
profile_of fields = with_fields fields 2 (needs (profile_in (field fields 1)) code.Number (λ profile. Ok (said.Profile profile)))

unfoldable pub name_of : List (List ℕ) → Result Record Code
name_of fields = with_fields fields 2 (needs (label_in (field fields 1)) code.Number (λ text. Ok (said.Name text)))

unfoldable pub clock_of : List (List ℕ) → Result Record Code
clock_of fields = with_fields fields 2 (needs (clock_in (field fields 1)) code.Number (λ second. Ok (said.Clock second)))

unfoldable pub call_of : List (List ℕ) → Result Record Code
call_of fields =
    with_fields fields 3 (
    needs (sign_in (field fields 2)) code.Number (λ sign.
    needs_address fields 1 (λ address.
    Ok (said.Call address sign))))

unfoldable pub end_of : List (List ℕ) → Result Record Code
end_of fields = with_fields fields 1 (Ok said.End)

-- The kinds of records that format 3 alone has.
abbrev pub of_format_3 : ℕ → List (List ℕ) → Result Record Code
of_format_3 version fields =
    if nat_le 3 version && bytes_eq (field fields 0) (codes "profile") then profile_of fields else
    if nat_le 3 version && bytes_eq (field fields 0) (codes "name") then name_of fields else
    if nat_le 3 version && bytes_eq (field fields 0) (codes "clock") then clock_of fields else
    if nat_le 3 version && bytes_eq (field fields 0) (codes "call") then call_of fields else Err code.Kind

-- The kinds of records that format 1 hasn't.
abbrev pub of_format_2 : ℕ → List (List ℕ) → Result Record Code
of_format_2 version fields =
    if nat_le 2 version && bytes_eq (field fields 0) (codes "climb") then climb_of fields else
    if nat_le 2 version && bytes_eq (field fields 0) (codes "plan") then plan_of fields else of_format_3 version fields

-- A later record, by its kind.
unfoldable pub record_of : ℕ → List (List ℕ) → Result Record Code
record_of version fields =
    if bytes_eq (field fields 0) (codes "fate") then fate_of fields else
    if bytes_eq (field fields 0) (codes "miss") then miss_of fields else
    if bytes_eq (field fields 0) (codes "leg") then leg_of fields else
    if bytes_eq (field fields 0) (codes "craft") then craft_of fields else
    if bytes_eq (field fields 0) (codes "run") then run_of fields else
    if bytes_eq (field fields 0) (codes "gains") then gains_of fields else
    if bytes_eq (field fields 0) (codes "end") then end_of fields else of_format_2 version fields
