-- What a record of tracks says by itself.
use Rattle.std.specs.Prelude.{◌==◌, ◌&&◌, if◌then◌else◌, ℕ, pos, List, length, codes, Option, Some, None, Result, Ok, Err}
use Rattle.std.specs.Str.{bytes_eq}
use Rattle.enc_file.specs.Saying as enc
use Rattle.enc_file.specs.Saying.{needs, needs_address, needs_number}
use Rattle.enc_file.specs.Values.{field, kind_in}
use Rattle.enc_file.specs.declared.record.Record.{Record}
use Rattle.enc_file.specs.declared.record.Record.TheVariants as said
use Rattle.enc_file.specs.declared.refusal.Code.{Code}
use Rattle.enc_file.specs.declared.refusal.Code.TheVariants as code
use Rattle.track_text.specs.declared.record.TrackRecord.{TrackRecord}
use Rattle.track_text.specs.declared.record.TrackRecord.TheVariants.{Shared, At}

-- The header is `tracks,1` or `tracks,2`. It stands for that of an encounter of format 2, or of format 3.
abbrev pub version_named : List ℕ → Option ℕ
version_named format =
    if bytes_eq format (codes "1") then Some 2 else
    if bytes_eq format (codes "2") then Some 3 else None

unfoldable pub version_in : List (List ℕ) → Option ℕ
version_in fields = if length fields == 2 && bytes_eq (field fields 0) (codes "tracks") then version_named (field fields 1) else None

-- The first record.
abbrev pub header_of : List (List ℕ) → Result TrackRecord Code
header_of fields = needs (version_in fields) code.Header (λ version. Ok (Shared (said.Header version)))

-- A record of `count` fields.
abbrev pub with_fields : List (List ℕ) → ℕ → Result TrackRecord Code → Result TrackRecord Code
with_fields fields count what = if length fields == count then what else Err code.Fields

-- A point: its time in ms, X and Y in ft, the altitude in 1/60 ft.
unfoldable pub point_of : List (List ℕ) → Result TrackRecord Code
point_of fields =
    with_fields fields 6 (
    needs_number fields 2 1000000 1000000 (λ ms.
    needs_number fields 3 1000000 1000000 (λ x.
    needs_number fields 4 1000000 1000000 (λ y.
    needs_number fields 5 60000 3600000 (λ z.
    needs_address fields 1 (λ address.
    Ok (At address (record { ms = ms; x = x; y = y; z = z }))))))))

-- An aircraft: its address and its kind.
unfoldable pub craft_of : List (List ℕ) → Result TrackRecord Code
craft_of fields =
    with_fields fields 3 (
    needs (kind_in (field fields 2)) code.Number (λ kind.
    needs_address fields 1 (λ address.
    Ok (Shared (said.Craft (record { address = address; kind = kind; x = pos 0; y = pos 0; alt = pos 0; ceiling = None }))))))

-- What a record of an encounter says, as a record of tracks.
abbrev pub as_shared : Result Record Code → Result TrackRecord Code
as_shared (Err why) = Err why
as_shared (Ok now) = Ok (Shared now)

-- A record that is read as in an encounter of this format.
abbrev pub read_shared : ℕ → List (List ℕ) → Result TrackRecord Code
read_shared version fields = as_shared (enc.record_of version fields)

-- A record after the header, by its kind. There are no legs.
abbrev pub record_of : ℕ → List (List ℕ) → Result TrackRecord Code
record_of version fields =
    if bytes_eq (field fields 0) (codes "at") then point_of fields else
    if bytes_eq (field fields 0) (codes "craft") then craft_of fields else
    if bytes_eq (field fields 0) (codes "leg") then Err code.Kind else read_shared version fields
