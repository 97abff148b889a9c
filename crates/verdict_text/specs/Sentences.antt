-- The sentence of a fault.
use Rattle.std.specs.Prelude.{ℕ, ◌-◌, ◌==◌, ◌&&◌, nat_le, if◌then◌else◌, List, [], ◌∷◌, ◌++◌, codes}
use Rattle.std.specs.Fmt.{decimal}
use Rattle.std.specs.List.{flat_map}
use Rattle.fault_text.specs.Hints.{number_hint}
use Rattle.fault_text.specs.Shown.{shown}
use Rattle.verdict_text.specs.declared.causes.CommitCause.{CommitCause}
use Rattle.verdict_text.specs.declared.causes.CommitCause.TheVariants as commit
use Rattle.verdict_text.specs.declared.causes.Lack.{Lack}
use Rattle.verdict_text.specs.declared.causes.Lack.TheVariants as lack
use Rattle.verdict_text.specs.declared.causes.SendCause.{SendCause}
use Rattle.verdict_text.specs.declared.causes.SendCause.TheVariants as send
use Rattle.verdict_text.specs.declared.causes.TakeCause.{TakeCause}
use Rattle.verdict_text.specs.declared.causes.TakeCause.TheVariants as take_cause
use Rattle.verdict_text.specs.declared.fault.Fault.{Fault}
use Rattle.verdict_text.specs.declared.fault.Found.{Found}
use Rattle.verdict_text.specs.declared.fault.Found.TheVariants as found
use Rattle.verdict_text.specs.declared.fault.Why.{Why}
use Rattle.verdict_text.specs.declared.fault.Why.TheVariants as why
use Rattle.verdict_text.specs.declared.spelling.EntryField.{EntryField}
use Rattle.verdict_text.specs.declared.spelling.EntryField.TheVariants as field
use Rattle.verdict_text.specs.declared.spelling.EntryKind.{EntryKind}
use Rattle.verdict_text.specs.declared.spelling.EntryKind.TheVariants as kind

-- ---- parts

-- A byte from 32 to 126; nothing for another one.
abbrev pub visible : ℕ → List ℕ
visible c = if nat_le 32 c && nat_le c 126 then c ∷ [] else []

-- A line that has to stand somewhere, without its line feed, between quotes.
abbrev pub quoted : List ℕ → List ℕ
quoted line = 34 ∷ flat_map visible line ++ 34 ∷ []

abbrev pub craft_text : ℕ → List ℕ
craft_text own = codes "aircraft " ++ decimal own

-- A number, and a word for one or for another number of things.
abbrev pub counted : ℕ → List ℕ → List ℕ → List ℕ
counted count one several = decimal count ++ (if count == 1 then one else several)

abbrev pub found_text : Found → List ℕ
found_text found.Missing = codes "is missing"
found_text (found.Whole body) = codes "is " ++ shown body.now
found_text (found.Unfinished text) = codes "is " ++ shown text.now ++ codes " without a line feed"

-- ---- what isn't allowed

abbrev pub inactive_text : ℕ → List ℕ
inactive_text own = craft_text own ++ codes " is of kind XPDR, and makes no entries"

abbrev pub no_commit_text : ℕ → ℕ → List ℕ
no_commit_text own cycle = craft_text own ++ codes " may not commit cycle " ++ decimal cycle ++ codes " here: "

abbrev pub commit_text : ℕ → ℕ → CommitCause → List ℕ
commit_text own cycle commit.Inactive = inactive_text own
commit_text own cycle (commit.Over cycles) = no_commit_text own cycle ++ codes "it has committed all " ++ decimal cycles
commit_text own cycle (commit.OtherCycle next) = no_commit_text own cycle ++ codes "its next cycle is " ++ decimal next
commit_text own cycle (commit.Owes target) = no_commit_text own cycle ++ codes "it owes aircraft " ++ decimal target ++ codes " a message"
commit_text own cycle (commit.Due send copy) = no_commit_text own cycle ++ codes "copy " ++ decimal copy ++ codes " of the message of position " ++ decimal send ++ codes " is due to it"
commit_text own cycle (commit.Ahead other count) = no_commit_text own cycle ++ craft_text other ++ codes " has committed fewer cycles, " ++ decimal count

abbrev pub no_send_text : ℕ → ℕ → List ℕ
no_send_text own target = craft_text own ++ codes " may not send to aircraft " ++ decimal target ++ codes " here: "

abbrev pub send_text : ℕ → ℕ → SendCause → List ℕ
send_text own target send.Inactive = inactive_text own
send_text own target send.OwesNobody = no_send_text own target ++ codes "it owes nobody a message"
send_text own target (send.OwesFirst first) = no_send_text own target ++ codes "it owes aircraft " ++ decimal first ++ codes " a message first"

abbrev pub no_take_text : ℕ → ℕ → ℕ → List ℕ
no_take_text own position copy = craft_text own ++ codes " may not take copy " ++ decimal copy ++ codes " of position " ++ decimal position ++ codes " here: "

abbrev pub take_text : ℕ → ℕ → ℕ → TakeCause → List ℕ
take_text own position copy take_cause.Inactive = inactive_text own
take_text own position copy take_cause.NoMessage = no_take_text own position copy ++ codes "at this position no message was sent to it"
take_text own position copy (take_cause.NoCopy copies) = no_take_text own position copy ++ codes "the message has " ++ counted copies (codes " copy") (codes " copies") ++ codes ", numbered from 0"
take_text own position copy (take_cause.Taken place) = no_take_text own position copy ++ codes "it took it at position " ++ decimal place
take_text own position copy (take_cause.Held missing) = no_take_text own position copy ++ codes "it is held back for " ++ counted missing (codes " more commit") (codes " more commits")

-- ---- what is lacking

abbrev pub lack_text : Lack → List ℕ
lack_text (lack.Commits own count cycles) = craft_text own ++ codes " has committed " ++ decimal count ++ codes " of " ++ counted cycles (codes " cycle") (codes " cycles")
lack_text (lack.Message sender receiver) = craft_text sender ++ codes " owes aircraft " ++ decimal receiver ++ codes " a message"

-- ---- how an entry is spelled

abbrev pub letter_of : EntryKind → List ℕ
letter_of kind.Commit = codes "c"
letter_of kind.Send = codes "s"
letter_of kind.Take = codes "t"

-- The form of an entry's line, where there are so many aircraft.
abbrev pub form_text : EntryKind → ℕ → List ℕ
form_text kind.Commit crafts = codes "c,OWN,CYCLE and " ++ counted crafts (codes " cell") (codes " cells")
form_text kind.Send crafts = codes "s,OWN,TARGET,NUMBER,WORD"
form_text kind.Take crafts = codes "t,OWN,POSITION,COPY,RESULT"

abbrev pub field_text : EntryField → List ℕ
field_text field.Own = codes "OWN"
field_text field.Cycle = codes "CYCLE"
field_text field.Target = codes "TARGET"
field_text field.Number = codes "NUMBER"
field_text field.Word = codes "WORD"
field_text field.Position = codes "POSITION"
field_text field.Copy = codes "COPY"
field_text field.Outcome = codes "RESULT"
field_text (field.Cell other) = codes "the cell for " ++ craft_text other
field_text (field.OwnCell own) = codes "the cell for " ++ craft_text own ++ codes " itself"

-- The range of a number, and what may be said of what stands in its place.
abbrev pub range_text : ℕ → ℕ → List ℕ → List ℕ
range_text low high found = codes "a whole number from " ++ decimal low ++ codes " to " ++ decimal high ++ number_hint found

-- What has to stand in a field in place of what does, where there are so many aircraft.
abbrev pub form_of : EntryField → ℕ → List ℕ → List ℕ
form_of field.Own crafts found = range_text 0 (crafts - 1) found
form_of field.Cycle crafts found = range_text 1 600 found
form_of field.Target crafts found = range_text 0 (crafts - 1) found
form_of field.Number crafts found = range_text 1 600 found
form_of field.Word crafts found = codes "fourteen digits 0-9A-F"
form_of field.Position crafts found = range_text 0 4294967295 found
form_of field.Copy crafts found = range_text 0 2 found
form_of field.Outcome crafts found = codes "g or b"
form_of (field.Cell other) crafts found = codes "-, t, or U or D, a strength 1 to 6, a point, an age 1 to 600 and letters of c, x, r in this order"
form_of (field.OwnCell own) crafts found = codes "-"

-- ---- how many entries there are

-- So many entries are announced, and so many stand before a line.
abbrev pub entries_text : ℕ → ℕ → List ℕ
entries_text announced entries = counted announced (codes " entry is announced, and ") (codes " entries are announced, and ") ++ counted entries (codes " stands here") (codes " stand here")

-- ---- all

abbrev pub why_text : Why → List ℕ
why_text why.Mark = codes "a byte order mark stands in front of this line, and a recording has none"
why_text why.CarriageReturn = codes "a carriage return stands in this line, and the lines of a recording end with a line feed alone"
why_text (why.OtherLine wanted found) = codes "this line has to be " ++ quoted wanted.now ++ codes ", and " ++ found_text found
why_text why.TooMany = codes "this line is one too many: the recording ends with \"close\""
why_text why.NoEnd = codes "no line is \"end\": the recording is cut off in its encounter, or is none"
why_text (why.NotCanonical wanted) = codes "the encounter isn't in its canonical text; there this line would be " ++ quoted wanted.now
why_text (why.NoCount found) = codes "this line has to be \"journal,\" and a number from 0 to 999999999, and " ++ found_text found
why_text (why.NoEntry announced entries) = codes "this line is missing: " ++ entries_text announced entries
why_text (why.EarlyReport announced entries) = codes "the report begins too early: " ++ entries_text announced entries
why_text (why.Unfinished text) = shown text.now ++ codes " has no line feed: the recording is cut off here"
why_text (why.NoKind text) = shown text.now ++ codes " is no kind of entry (c, s, t)"
why_text (why.FieldCount of crafts fields) = letter_of of ++ codes " has " ++ counted fields (codes " field here") (codes " fields here") ++ codes ", and has to be " ++ form_text of crafts
why_text (why.NoValue name crafts text) = field_text name ++ codes " is " ++ shown text.now ++ codes ", and has to be " ++ form_of name crafts text.now
why_text (why.NoCommit own cycle cause) = commit_text own cycle cause
why_text (why.NoSend own target cause) = send_text own target cause
why_text (why.NoTake own position copy cause) = take_text own position copy cause
why_text (why.OtherContent wanted) = codes "here this line would be " ++ quoted wanted.now
why_text (why.Incomplete lack) = codes "the entries end too early: " ++ lack_text lack

-- The line that tells a fault.
abbrev pub sentence : Fault → List ℕ
sentence fault = codes "line " ++ decimal fault.line ++ codes ": " ++ why_text fault.why ++ 10 ∷ []
