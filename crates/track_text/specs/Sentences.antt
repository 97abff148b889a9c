-- The sentence of what is wrong with a text of tracks.
use Rattle.std.specs.Prelude.{ℕ, ℤ, ◌&&◌, nat_lt, if◌then◌else◌, Bool, List, ◌++◌, codes, is_some}
use Rattle.std.specs.Fmt.{decimal, signed_decimal}
use Rattle.std.specs.Str.{bytes_eq}
use Rattle.acas_text.specs.Hex.{hex}
use Rattle.fault_text.specs.Sentences.{count_text, why_text}
use Rattle.fault_text.specs.Shown.{shown}
use Rattle.track_file.specs.declared.along.TrackFault.{TrackFault}
use Rattle.track_file.specs.declared.along.TrackFault.TheVariants.{Cover, Rate}
use Rattle.track_text.specs.Conditions.{kind_named}
use Rattle.track_text.specs.Kinds.{own_form, own_word}
use Rattle.track_text.specs.declared.why.TrackWhy.{TrackWhy}
use Rattle.track_text.specs.declared.why.TrackWhy.TheVariants as why

-- The six digits of an address. A number that has more digits is written in decimal.
abbrev pub address_text : ℕ → List ℕ
address_text address = if nat_lt address 16777216 then hex 6 address else decimal address

-- Why an aircraft can't fly along its track.
abbrev pub track_fault : TrackFault → ℕ → List ℕ
track_fault (Cover craft) address = codes "the track of " ++ address_text address ++ codes " has no point at 0 ms or before it, or none at the time of the last cycle or after it"
track_fault (Rate craft cycle) address =
    codes "the track of " ++ address_text address ++ codes " is too fast for a leg from cycle " ++ decimal cycle ++ codes " to the next one: at most 2000 ft/s in x and in y, and 10000 ft/min"

-- A word is none of the kinds behind a header, which stands for this version of the encounter.
abbrev pub kinds_text : ℕ → List ℕ
kinds_text version =
    if nat_lt version 3 then codes " is no kind of record of \"tracks,1\" (run, gains, craft, climb, at, miss, plan, fate, end)"
    else codes " is no kind of record of \"tracks,2\" (profile, name, clock, run, gains, craft, call, climb, at, miss, plan, fate, end)"

-- `tracks,2` alone has this kind, and the header is `tracks,1`.
abbrev pub is_newer : ℕ → List ℕ → Bool
is_newer version found = nat_lt version 3 && is_some (kind_named 3 found)

-- What is said of a word that names no kind of record of tracks.
abbrev pub no_kind_text : ℕ → List ℕ → List ℕ
no_kind_text version found =
    if bytes_eq found (codes "tracks") then codes " can only be the first record" else
    if is_newer version found then codes " is a kind of record of \"tracks,2\" alone; the first record is \"tracks,1\""
    else kinds_text version

-- The time of a point isn't above that of the last point of its aircraft.
abbrev pub not_above_text : ℤ → ℤ → ℕ → List ℕ
not_above_text found reached number = codes "MS is " ++ signed_decimal found ++ codes ", and has to be above " ++ signed_decimal reached ++ codes ", the MS of line " ++ decimal number

abbrev pub track_why_text : TrackWhy → List ℕ
track_why_text why.NoRecord = codes "there is no record; the first one has to be \"tracks,1\" or \"tracks,2\""
track_why_text (why.NoHeader found) = codes "the first record has to be \"tracks,1\" or \"tracks,2\", and is " ++ shown found.now
track_why_text (why.NoKind version found) = shown found.now ++ no_kind_text version found.now
track_why_text (why.FieldCount own count) = count_text (own_word own) count (own_form own)
track_why_text (why.NotAbove found reached number) = not_above_text found reached number
track_why_text why.ManyCrafts = codes "one aircraft too many: tracks have at most 16"
track_why_text (why.Shared told) = why_text told
track_why_text (why.Track fault address) = track_fault fault address

-- The sentence of what is wrong with the record in a line of the file.
abbrev pub sentence : ℕ → TrackWhy → List ℕ
sentence number told = codes "line " ++ decimal number ++ codes ": " ++ track_why_text told ++ codes "\n"
