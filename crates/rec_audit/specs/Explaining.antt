-- What is told of a recording.
use Rattle.std.specs.Prelude.{◌≡◌, ◌≢◌, ◌⊎◌, ℕ, ◌+◌, ◌-◌, ◌<◌, ◌==◌, ◌||◌, if◌then◌else◌, Bool, true, false, MatchBool, List, [], ◌∷◌, ◌++◌, length, Option, Some, None, Err, take, drop, slice_get, codes, nat_eq}
use Rattle.std.specs.Borrow.{Bor}
use Rattle.std.specs.List.{starts_with}
use Rattle.acas_base.specs.Encounter.{Parts}
use Rattle.acas_base.specs.declared.entry.Entry.{Entry}
use Rattle.acas_lines.specs.Differing.{DifferAt}
use Rattle.acas_lines.specs.Lines.{joined}
use Rattle.acas_lines.specs.Split.{lines_of}
use Rattle.air_journal.specs.Airs.{air_of}
use Rattle.air_journal.specs.Ranges.{IsEntry}
use Rattle.air_journal.specs.States.{State}
use Rattle.air_rules.specs.Air.{Air}
use Rattle.air_rules.specs.Rules.{IsComplete}
use Rattle.enc_file.specs.Canonical.{canonical_lines}
use Rattle.enc_file.specs.Reading.{Says, reading_of}
use Rattle.enc_file.specs.declared.refusal.Refusal.{Refusal}
use Rattle.fault_text.specs.Told as faults
use Rattle.rec_audit.specs.Allowing.{IsAllowedLine}
use Rattle.rec_audit.specs.Faulty.{TellsForm}
use Rattle.rec_audit.specs.Fields.{fields_of}
use Rattle.rec_audit.specs.Judging.{IsBeginningOf, IsRecordingOf, Judged}
use Rattle.rec_audit.specs.Keys.{key}
use Rattle.rec_audit.specs.Opening.{HasNoEnd, IsCut, NoCount, Opens, first_entry}
use Rattle.rec_audit.specs.Replays.{IsWrongLine}
use Rattle.rec_audit.specs.declared.explaining.Explained.{Explained}
use Rattle.rec_audit.specs.declared.explaining.Explained.TheVariants as explained
use Rattle.rec_audit.specs.declared.keys.Key.{Key}
use Rattle.rec_audit.specs.declared.keys.Key.TheVariants as keys
use Rattle.rec_audit.specs.declared.verdict.Reason.{Reason}
use Rattle.rec_audit.specs.declared.verdict.Reason.TheVariants as reason
use Rattle.rec_audit.specs.declared.verdict.Verdict.TheVariants as verdict
use Rattle.rec_text.specs.Entries.{entry_line}
use Rattle.rec_text.specs.Recording.{closing_lines, head_line}
use Rattle.verdict_text.specs.Causes.{BarsCommit, BarsSend, BarsTake, Lacks}
use Rattle.verdict_text.specs.Sentences.{sentence}
use Rattle.verdict_text.specs.declared.fault.Fault.{Fault}
use Rattle.verdict_text.specs.declared.fault.Found.{Found}
use Rattle.verdict_text.specs.declared.fault.Found.TheVariants as found
use Rattle.verdict_text.specs.declared.fault.Why.{Why}
use Rattle.verdict_text.specs.declared.fault.Why.TheVariants as why
use Rattle.verdict_text.specs.declared.wanted.TheConstants.{WANTED_BYTES}

-- ---- an entry that isn't allowed, and one that is

-- Why nothing about a thing is allowed after a journal.
abbrev pub BarsKey : Air → List Entry → Key → Why → Type 0
BarsKey air journal (keys.Commit own cycle) (why.NoCommit by of cause) = (by ≡ own) × (of ≡ cycle) × BarsCommit air journal own cycle cause
BarsKey air journal (keys.Send own target) (why.NoSend by to cause) = (by ≡ own) × (to ≡ target) × BarsSend air journal own target cause
BarsKey air journal (keys.Take own send copy) (why.NoTake by at of cause) = (by ≡ own) × (at ≡ send) × (of ≡ copy) × BarsTake air journal own send copy cause
BarsKey air journal about other = ⊥

-- Such a line, as far as it is shown.
abbrev pub ShowsAllowed : Air → List Entry → Key → List ℕ → Type 0
ShowsAllowed air journal about wanted = (line : List ℕ) × IsAllowedLine air journal about line × (wanted ≡ take WANTED_BYTES line)

abbrev pub TellsContent : Air → List Entry → Key → Why → Type 0
TellsContent air journal about (why.OtherContent wanted) = ShowsAllowed air journal about wanted.now
TellsContent air journal about other = ⊥

-- What is told of an entry, by the reason why it is wrong.
abbrev pub TellsEntry : Air → List Entry → Reason → Entry → Why → Type 0
TellsEntry air journal reason.NotAllowed entry w = BarsKey air journal (key entry) w
TellsEntry air journal reason.OtherContent entry w = TellsContent air journal (key entry) w
TellsEntry air journal other entry w = ⊥

-- The first of these lines is that of an entry, and this is told of it.
pub record TellsLine (air : Air) (journal : List Entry) (left : List (List ℕ)) (r : Reason) (w : Why) : Type 0 where
  pub entry : Entry
  pub later : List (List ℕ)
  pub fits : IsEntry air.count entry
  pub spelled : left ≡ entry_line air.count entry ∷ later
  pub tells : TellsEntry air journal r entry w

abbrev pub TellsLack : Air → List Entry → Why → Type 0
TellsLack air journal (why.Incomplete lack) = Lacks air journal lack
TellsLack air journal other = ⊥

-- What is told after a journal, whose entries leave these lines.
abbrev pub TellsHere : Air → List Entry → List (List ℕ) → Reason → Why → Type 0
TellsHere air journal left reason.NotAllowed w = TellsLine air journal left reason.NotAllowed w
TellsHere air journal left reason.OtherContent w = TellsLine air journal left reason.OtherContent w
TellsHere air journal left reason.Incomplete w = TellsLack air journal w
TellsHere air journal left other w = ⊥

-- The lines before a line are a beginning of a recording, and this is told after its journal.
pub record TellsAfter (bytes : List ℕ) (line : ℕ) (r : Reason) (w : Why) : Type 0 where
  pub state : State
  pub before : IsBeginningOf (joined (take (line - 1) (lines_of bytes))) state
  pub tells : TellsHere (air_of state.encounter) state.journal (drop (line - 1) (lines_of bytes)) r w

-- ---- a line that isn't spelled well, and one of the report or the close

-- The line of this number; none where there are fewer.
abbrev pub line_at : List ℕ → ℕ → Option (List ℕ)
line_at bytes line = slice_get (drop (line - 1) (lines_of bytes)) 0

-- Whether a carriage return stands in it.
abbrev pub has_return : List ℕ → Bool
has_return [] = false
has_return (c ∷ cs) = c == 13 || has_return cs

abbrev pub has_return_in : Option (List ℕ) → Bool
has_return_in None = false
has_return_in (Some text) = has_return text

-- A carriage return is told before anything else.
abbrev pub TellsReturn : Option (List ℕ) → (Why → Type 0) → Why → Type 0
TellsReturn here tells w = MatchBool (has_return_in here) (w ≡ why.CarriageReturn) (tells w)

-- A line with its line feed, or without one.
abbrev pub IsWhole : List ℕ → Type 0
IsWhole text = (front : List ℕ) × (text ≡ front ++ 10 ∷ [])

-- What stands in a line.
abbrev pub IsFound : Option (List ℕ) → Found → Type 0
IsFound here found.Missing = here ≡ None
IsFound here (found.Whole body) = here ≡ Some (body.now ++ 10 ∷ [])
IsFound here (found.Unfinished text) = (here ≡ Some text.now) × (IsWhole text.now → ⊥)

-- This line is told to have to stand there.
abbrev pub TellsShown : Option (List ℕ) → List ℕ → Why → Type 0
TellsShown here wanted (why.OtherLine shown f) = (shown.now ≡ wanted) × IsFound here f
TellsShown here wanted other = ⊥

-- This line has to stand there. It is told as far as it is shown.
abbrev pub TellsOther : Option (List ℕ) → List ℕ → Why → Type 0
TellsOther here wanted w = TellsShown here (take WANTED_BYTES wanted) w

-- The line of the report and the close that has to stand there, or that none has to.
abbrev pub TellsClosing : Option (List ℕ) → Option (List ℕ) → Why → Type 0
TellsClosing here None w = w ≡ why.TooMany
TellsClosing here (Some wanted) w = TellsOther here wanted w

-- The lines before the end of the entries are the beginning of a recording. The lines from there on differ from the
-- report and the close of its journal, first in a line for which this is told.
pub record TellsReport (bytes : List ℕ) (line : ℕ) (w : Why) : Type 0 where
  pub state : State
  pub end : ℕ
  pub before : IsBeginningOf (joined (take (end - 1) (lines_of bytes))) state
  pub complete : IsComplete (air_of state.encounter) state.journal
  pub same : ℕ
  pub line_is : line ≡ end + same
  pub differ : DifferAt same (drop (end - 1) (lines_of bytes)) (closing_lines state.encounter state.journal)
  pub tells : TellsClosing (line_at bytes line) (slice_get (closing_lines state.encounter state.journal) same) w

-- ---- sentences

abbrev pub fault_of : ℕ → Why → Fault
fault_of line w = record { line = line; why = w }

-- A sentence tells something of a line.
pub record IsToldBy (line : ℕ) (tells : Why → Type 0) (told : List ℕ) : Type 0 where
  pub why : Why
  pub fitting : tells why
  pub told_is : told ≡ sentence (fault_of line why)

-- The sentence that tells another line.
abbrev pub IsContentSentence : ℕ → List ℕ → List ℕ → Type 0
IsContentSentence line wanted told = (shown : Bor (List ℕ)) × (shown.now ≡ wanted) × (told ≡ sentence (fault_of line (why.OtherContent shown)))

abbrev pub IsOtherSentence : ℕ → List ℕ → Found → List ℕ → Type 0
IsOtherSentence line wanted found told = (shown : Bor (List ℕ)) × (shown.now ≡ wanted) × (told ≡ sentence (fault_of line (why.OtherLine shown found)))

abbrev pub IsCanonicalSentence : ℕ → List ℕ → List ℕ → Type 0
IsCanonicalSentence line wanted told = (shown : Bor (List ℕ)) × (shown.now ≡ wanted) × (told ≡ sentence (fault_of line (why.NotCanonical shown)))

-- ---- the encounter of a recording

-- These lines begin with those of an encounter, up to the first `end`. The text has the bytes of these.
pub record IsPart (lines : List (List ℕ)) (text : List ℕ) : Type 0 where
  pub part : List (List ℕ)
  pub rest : List (List ℕ)
  pub cut : IsCut lines part rest
  pub text_is : text ≡ joined part

-- The number of the first line in which a carriage return stands. The first of the lines has the number `at`.
abbrev pub first_return : ℕ → List (List ℕ) → Option ℕ
first_return at [] = None
first_return at (line ∷ lines) = if has_return line then Some at else first_return (at + 1) lines

-- The first carriage return is told before anything else.
abbrev pub TellsFirstReturn : Option ℕ → (List ℕ → Type 0) → List ℕ → Type 0
TellsFirstReturn None tells told = tells told
TellsFirstReturn (Some line) tells told = told ≡ sentence (fault_of line why.CarriageReturn)

-- A byte order mark stands in front of a text.
abbrev pub IsMarked : List ℕ → Type 0
IsMarked text = (rest : List ℕ) × (text ≡ 0xEF ∷ 0xBB ∷ 0xBF ∷ rest)

-- The lines from the second one of a recording on differ from the canonical ones of an encounter. Told is the first of
-- these that differs, as far as it is shown.
pub record TellsCanonical (lines : List (List ℕ)) (e : Parts) (told : List ℕ) : Type 0 where
  pub same : ℕ
  pub differ : DifferAt same lines (canonical_lines e)
  pub line : List ℕ
  pub there : slice_get (canonical_lines e) same ≡ Some line
  pub sentence_is : IsCanonicalSentence (same + 2) (take WANTED_BYTES line) told

-- What is told of an encounter in a recording, whose lines are these, from the second one on. Either a mark stands in
-- front of its text. Or the text is refused: then the sentence of its refusal is told. There an empty line stands
-- before the text, in the place of the recording's first line; so all lines that are named are those of the recording.
-- Or it isn't in its canonical text.
pub data TellsText (lines : List (List ℕ)) (text told : List ℕ) : Type 0 where
  marked : IsMarked text → told ≡ sentence (fault_of 2 why.Mark) → TellsText lines text told
  refused_text : (refusal : Refusal) → (IsMarked text → ⊥) → reading_of text ≡ Err refusal → faults.IsExplained (10 ∷ text) refusal told → TellsText lines text told
  other_text : (e : Parts) → (IsMarked text → ⊥) → Says text e → TellsCanonical lines e told → TellsText lines text told

pub record TellsPart (lines : List (List ℕ)) (told : List ℕ) : Type 0 where
  pub text : List ℕ
  pub is_part : IsPart lines text
  pub tells : TellsFirstReturn (first_return 2 (lines_of text)) (TellsText lines text) told

-- ---- the spelling of other lines

-- The number of entries has to stand there.
abbrev pub TellsCount : Option (List ℕ) → Why → Type 0
TellsCount here (why.NoCount f) = IsFound here f
TellsCount here other = ⊥

-- A line with its line feed. What is wrong with its fields is told.
pub record TellsFields (crafts : ℕ) (text : List ℕ) (w : Why) : Type 0 where
  pub body : List ℕ
  pub whole : text ≡ body ++ 10 ∷ []
  pub tells : TellsForm crafts (fields_of body) w

-- A line without a line feed.
abbrev pub TellsUnfinished : List ℕ → Why → Type 0
TellsUnfinished text (why.Unfinished f) = (f.now ≡ text) × (IsWhole text → ⊥)
TellsUnfinished text other = ⊥

-- What is wrong with the line of an entry: its fields, or it isn't finished.
abbrev pub TellsLater : ℕ → List ℕ → Why → Type 0
TellsLater crafts text w = TellsFields crafts text w ⊎ TellsUnfinished text w

-- A line begins as the first one of a report.
abbrev pub begins_report : List ℕ → Bool
begins_report text = starts_with nat_eq text (codes "report,")

-- Where the line of an entry has to stand, the report begins, or the line is misspelled. So many entries are announced,
-- and so many stand before it.
abbrev pub TellsThisEntry : ℕ → ℕ → ℕ → List ℕ → Why → Type 0
TellsThisEntry crafts announced entries text w = MatchBool (begins_report text) (w ≡ why.EarlyReport announced entries) (TellsLater crafts text w)

-- The line of an entry is missing, or it is another one.
abbrev pub TellsEntryLine : ℕ → ℕ → ℕ → Option (List ℕ) → Why → Type 0
TellsEntryLine crafts announced entries None w = w ≡ why.NoEntry announced entries
TellsEntryLine crafts announced entries (Some text) w = TellsThisEntry crafts announced entries text w

-- The line stands behind the number of entries and so many entries.
pub record TellsSpelledEntry (bytes : List ℕ) (line : ℕ) (w : Why) : Type 0 where
  pub encounter : Parts
  pub announced : ℕ
  pub rest : List (List ℕ)
  pub opens : Opens encounter announced (lines_of bytes) rest
  pub entries : ℕ
  pub line_is : line ≡ first_entry encounter + entries
  pub tells : TellsEntryLine (length encounter.crafts) announced entries (line_at bytes line) w

-- What is told of the spelling of a line, by the first step that fails.
pub data TellsSpelling (bytes : List ℕ) (line : ℕ) (told : List ℕ) : Type 0 where
  of_head : line ≡ 1 → IsToldBy line (TellsReturn (line_at bytes line) (TellsOther (line_at bytes line) head_line)) told → TellsSpelling bytes line told
  of_end : HasNoEnd (drop 1 (lines_of bytes)) → TellsFirstReturn (first_return 2 (drop 1 (lines_of bytes))) (λ t. t ≡ sentence (fault_of line why.NoEnd)) told → TellsSpelling bytes line told
  of_part : line ≡ 2 → TellsPart (drop 1 (lines_of bytes)) told → TellsSpelling bytes line told
  of_count : (part rest : List (List ℕ)) → IsCut (drop 1 (lines_of bytes)) part rest → NoCount rest →
      IsToldBy line (TellsReturn (line_at bytes line) (TellsCount (line_at bytes line))) told → TellsSpelling bytes line told
  of_entry : IsToldBy line (TellsReturn (line_at bytes line) (TellsSpelledEntry bytes line)) told → TellsSpelling bytes line told

-- ---- all

-- The sentence that tells why a line is wrong, by its reason.
abbrev pub TellsSomething : List ℕ → ℕ → Reason → List ℕ → Type 0
TellsSomething bytes line (reason.Encounter code) told = TellsPart (drop 1 (lines_of bytes)) told
TellsSomething bytes line reason.Spelling told = TellsSpelling bytes line told
TellsSomething bytes line reason.NotAllowed told = IsToldBy line (TellsAfter bytes line reason.NotAllowed) told
TellsSomething bytes line reason.OtherContent told = IsToldBy line (TellsAfter bytes line reason.OtherContent) told
TellsSomething bytes line reason.Incomplete told = IsToldBy line (TellsAfter bytes line reason.Incomplete) told
TellsSomething bytes line reason.Report told = IsToldBy line (TellsReturn (line_at bytes line) (TellsReport bytes line)) told

-- What is explained of these bytes.
abbrev pub IsExplained : List ℕ → Explained → Type 0
IsExplained bytes (explained.Legal state) = IsRecordingOf bytes state
IsExplained bytes (explained.Wrong line r told) = Judged bytes (verdict.Wrong line r) × TellsSomething bytes line r told

-- ---- steps

-- The reasons that are found after the entries before a line.
abbrev pub is_after_entries : Reason → Bool
is_after_entries reason.NotAllowed = true
is_after_entries reason.OtherContent = true
is_after_entries reason.Incomplete = true
is_after_entries other = false

-- The first of these lines is wrong after a journal.
abbrev pub StartsWrong : Air → List Entry → List (List ℕ) → Reason → Type 0
StartsWrong air journal left r = (line : List ℕ) × (rest : List (List ℕ)) × (left ≡ line ∷ rest) × IsWrongLine air journal line r

-- What is wrong after a journal, whose entries leave these lines.
abbrev pub IsWrongHere : Air → List Entry → List (List ℕ) → Reason → Type 0
IsWrongHere air journal left reason.NotAllowed = StartsWrong air journal left reason.NotAllowed
IsWrongHere air journal left reason.OtherContent = StartsWrong air journal left reason.OtherContent
IsWrongHere air journal left reason.Incomplete = IsComplete air journal → ⊥
IsWrongHere air journal left other = ⊥

-- An encounter that these lines say up to the first `end` isn't in its canonical text.
abbrev pub IsNoCanonical : List (List ℕ) → Type 0
IsNoCanonical lines = (part rest : List (List ℕ)) → IsCut lines part rest → (e : Parts) → Says (joined part) e → part ≢ canonical_lines e

-- Other lines than the canonical ones of an encounter come first.
abbrev pub ComeOther : List (List ℕ) → Parts → Type 0
ComeOther lines e = (rest : List (List ℕ)) → lines ≢ canonical_lines e ++ rest

-- The line behind the first ones of a recording.
abbrev pub IsHeaded : List (List ℕ) → Type 0
IsHeaded lines = (rest : List (List ℕ)) × (lines ≡ head_line ∷ rest)

-- No entry has this line. The line is no longer than a recording can be.
pub record IsUnspelled (count : ℕ) (text : List ℕ) : Type 0 where
  pub few : length text < 4294967295
  pub none : (entry : Entry) → IsEntry count entry → entry_line count entry ≢ text

abbrev pub IsUnspelledIn : ℕ → Option (List ℕ) → Type 0
IsUnspelledIn count None = Unit {0}
IsUnspelledIn count (Some text) = IsUnspelled count text
