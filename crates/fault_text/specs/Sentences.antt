-- The sentence of a fault.
use Rattle.std.specs.Prelude.{ℕ, ℤ, ◌==◌, ◌&&◌, ◌||◌, nat_lt, if◌then◌else◌, Bool, List, [], ◌∷◌, ◌++◌, codes, Option, None, Some}
use Rattle.std.specs.Fmt.{decimal, signed_decimal}
use Rattle.std.specs.Str.{bytes_eq}
use Rattle.acas_text.specs.Hex.{hex}
use Rattle.enc_file.specs.Values.{address_in}
use Rattle.fault_text.specs.Before.{alike}
use Rattle.fault_text.specs.Hints.{address_hint, number_hint}
use Rattle.fault_text.specs.LeavingText.{leaving_text}
use Rattle.fault_text.specs.Lines.{fields_in}
use Rattle.fault_text.specs.Names.{content_of, name_text, word_text}
use Rattle.fault_text.specs.Shown.{shown}
use Rattle.fault_text.specs.declared.earlier.Sought.{Sought}
use Rattle.fault_text.specs.declared.fault.Fault.{Fault}
use Rattle.fault_text.specs.declared.fault.Why.{Why}
use Rattle.fault_text.specs.declared.fault.Why.TheVariants as why
use Rattle.fault_text.specs.declared.names.Content.{Content}
use Rattle.fault_text.specs.declared.names.Content.TheVariants as content
use Rattle.fault_text.specs.declared.names.FieldName.{FieldName}
use Rattle.fault_text.specs.declared.names.FieldName.TheVariants as name
use Rattle.fault_text.specs.declared.names.RecordKind.{RecordKind}
use Rattle.fault_text.specs.declared.names.RecordKind.TheVariants as kind

-- The unit of a number, with a space before it.
abbrev pub unit_text : FieldName → List ℕ
unit_text name.Ground = codes " ft"
unit_text name.X = codes " ft"
unit_text name.Y = codes " ft"
unit_text name.Alt = codes " ft"
unit_text name.Limit = codes " ft"
unit_text name.Vx = codes " ft/s"
unit_text name.Vy = codes " ft/s"
unit_text name.Vz = codes " ft/min"
unit_text name.Ms = codes " ms"
unit_text name.Z = codes ", in 1/60 ft"
unit_text other = []

abbrev pub range_text : ℤ → ℤ → List ℕ
range_text low high = signed_decimal low ++ codes " to " ++ signed_decimal high

-- What has to stand in a field.
abbrev pub wanted : FieldName → Content → List ℕ → List ℕ
wanted n (content.Whole low high) found = codes "a whole number from " ++ range_text low high ++ unit_text n ++ number_hint found
wanted n content.Kind found = codes "RA, TA or XPDR"
wanted n content.Mask found = codes "two digits 0-9A-F"
wanted n content.Profile found = codes "1 or 2"
wanted n content.Label found = codes "1 to 60 bytes from 20 to 7E hex"
wanted n content.Clock found = codes "a time of day from 00:00:00 to 23:59:59"
wanted n content.Sign found = codes "a call sign: 1 to 8 of A-Z, 0-9 and -, and not six digits 0-9A-F"
wanted n content.Address found = codes "an address"

-- The form of a record.
abbrev pub form_text : RecordKind → List ℕ
form_text kind.Run = codes "run,CYCLES,GROUND"
form_text kind.Gains = codes "gains,ALPHA,BETA,ALPHA,BETA"
form_text kind.Craft = codes "craft,ADDRESS,KIND,X,Y,ALT"
form_text kind.Climb = codes "climb,ADDRESS,LIMIT"
form_text kind.Leg = codes "leg,ADDRESS,FROM,VX,VY,VZ"
form_text kind.Miss = codes "miss,OWN,TARGET,FROM,TO"
form_text kind.Plan = codes "plan,SENDER,RECEIVER and none to three copies HOLD,MASK"
form_text kind.Fate = codes "fate,SENDER,RECEIVER,NUMBER and none to three copies HOLD,MASK"
form_text kind.End = codes "end"
form_text kind.Profile = codes "profile,NUMBER"
form_text kind.Name = codes "name,TEXT"
form_text kind.Clock = codes "clock,HH:MM:SS"
form_text kind.Call = codes "call,ADDRESS,NAME"

-- A word that names no kind of the format.
abbrev pub is_later_word : ℕ → List ℕ → Bool
is_later_word version found = version == 1 && (bytes_eq found (codes "climb") || bytes_eq found (codes "plan"))

-- The kinds that format 3 alone has.
abbrev pub is_newest_word : ℕ → List ℕ → Bool
is_newest_word version found =
    nat_lt version 3 && (bytes_eq found (codes "profile") || (bytes_eq found (codes "name") || (bytes_eq found (codes "clock") || bytes_eq found (codes "call"))))

abbrev pub newest_text : ℕ → List ℕ
newest_text version =
    if version == 1 then codes " is a kind of record of format 3 alone; the first record is \"encounter,1\""
    else codes " is a kind of record of format 3 alone; the first record is \"encounter,2\""

abbrev pub kinds_text : ℕ → List ℕ
kinds_text version =
    if version == 1 then codes " is no kind of record of format 1 (run, gains, craft, leg, miss, fate, end)" else
    if version == 2 then codes " is no kind of record of format 2 (run, gains, craft, climb, leg, miss, plan, fate, end)"
    else codes " is no kind of record of format 3 (profile, name, clock, run, gains, craft, call, climb, leg, miss, plan, fate, end)"

abbrev pub no_kind_text : ℕ → List ℕ → List ℕ
no_kind_text version found =
    if bytes_eq found (codes "encounter") then codes " can only be the first record" else
    if is_later_word version found then codes " is a kind of record of formats 2 and 3; the first record is \"encounter,1\"" else
    if is_newest_word version found then newest_text version else kinds_text version

abbrev pub fields_text : ℕ → List ℕ
fields_text count = if count == 1 then codes " field here, and has to be " else codes " fields here, and has to be "

-- A record that begins with this word hasn't so many fields, and has to have this form.
abbrev pub count_text : List ℕ → ℕ → List ℕ → List ℕ
count_text word count form = word ++ codes " has " ++ decimal count ++ fields_text count ++ form

abbrev pub field_count_text : RecordKind → ℕ → List ℕ
field_count_text of count = count_text (word_text of) count (form_text of)

-- A field and what stands there.
abbrev pub found_text : FieldName → List ℕ → List ℕ
found_text n found = name_text n ++ codes " is " ++ shown found

-- An address behind some words, where there is one.
abbrev pub named_text : List ℕ → Option ℕ → List ℕ
named_text words None = []
named_text words (Some address) = words ++ hex 6 address

-- The records that there may be once.
abbrev pub again_text : Sought → ℕ → List ℕ
again_text of number =
    codes "a second " ++ word_text of.kind ++ codes " record" ++ named_text (codes " of ") of.first ++ named_text (codes " to ") of.second ++ codes "; the first one is in line " ++ decimal number

-- The fields with a number that has to exceed the earlier one, and with that one.
abbrev pub rising_name : RecordKind → FieldName
rising_name kind.Fate = name.Number
rising_name other = name.From

abbrev pub reached_name : RecordKind → FieldName
reached_name kind.Fate = name.Number
reached_name kind.Miss = name.To
reached_name other = name.From

abbrev pub rising_text : RecordKind → ℕ → List ℕ
rising_text of found = name_text (rising_name of) ++ codes " is " ++ decimal found

abbrev pub reached_text : RecordKind → ℕ → List ℕ
reached_text of number = codes ", the " ++ name_text (reached_name of) ++ codes " of line " ++ decimal number

abbrev pub not_above_text : RecordKind → ℕ → ℕ → ℕ → List ℕ
not_above_text of found reached number = rising_text of found ++ codes ", and has to be above " ++ decimal reached ++ reached_text of number

abbrev pub many_crafts_text : ℕ → List ℕ
many_crafts_text version =
    if version == 1 then codes "one aircraft too many: format 1 has at most 8, and format 2 has at most 16" else
    if version == 2 then codes "one aircraft too many: format 2 has at most 16" else codes "one aircraft too many: format 3 has at most 16"

abbrev pub why_text : Why → List ℕ
why_text why.NoRecord = codes "there is no record; the first one has to be \"encounter,1\", \"encounter,2\" or \"encounter,3\""
why_text (why.NoHeader found) = codes "the first record has to be \"encounter,1\", \"encounter,2\" or \"encounter,3\", and is " ++ shown found.now
why_text (why.NoKind version found) = shown found.now ++ no_kind_text version found.now
why_text (why.FieldCount kind count) = field_count_text kind count
why_text (why.NoValue n found) = found_text n found.now ++ codes ", and has to be " ++ wanted n (content_of n) found.now
why_text (why.Turned from to) = codes "TO is " ++ decimal to ++ codes ", and may not be below FROM, " ++ decimal from
why_text (why.NoAddress n found) = found_text n found.now ++ codes ", and has to be an address: six digits 0-9A-F" ++ address_hint found.now
why_text (why.ManyBits n found bits) = found_text n found.now ++ codes ": " ++ decimal bits ++ codes " of its bits are 1, and at most three may be"
why_text (why.Again kind now number) = again_text (alike kind (fields_in now.now)) number
why_text (why.NotAbove of found reached number) = not_above_text of found reached number
why_text (why.Called found number) = found_text name.Sign found.now ++ codes ", which is the call sign of another aircraft, in line " ++ decimal number
why_text (why.Unknown n found) = found_text n found.now ++ codes ", which has no craft record before this line"
why_text (why.Equal found) = codes "the two addresses are equal, " ++ shown found.now
why_text (why.ManyCrafts version) = many_crafts_text version
why_text why.NoRun = codes "there is no run record"
why_text why.NoProfile = codes "there is no profile record, which format 3 needs"
why_text why.NoneActive = codes "there is no aircraft of kind RA or TA"
why_text (why.Outside craft cycle axis value) = codes "aircraft" ++ named_text (codes " ") (address_in craft.now) ++ leaving_text cycle axis value
why_text why.NoEnd = codes "the last record has to be \"end\", and there is none; was the text cut off?"
why_text (why.After end) = codes "a record after \"end\", which is in line " ++ decimal end

-- The line that tells a fault.
abbrev pub sentence : Fault → List ℕ
sentence fault = codes "line " ++ decimal fault.line ++ codes ": " ++ why_text fault.why ++ 10 ∷ []
