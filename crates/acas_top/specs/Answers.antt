-- The answer to each command on the bytes that it read: a status, and the text that is written.
use Rattle.std.specs.Prelude.{◌≡◌, ℕ, List, ◌++◌, Err, if◌then◌else◌, codes, length}
use Rattle.std.specs.Fmt.{decimal}
use Rattle.acas_base.specs.declared.setting.Profile.{Profile}
use Rattle.acas_base.specs.Encounter.{Parts}
use Rattle.acas_base.specs.declared.entry.Entry.{Entry}
use Rattle.acas_lines.specs.Lines.{count_line, joined}
use Rattle.acas_top.specs.Comparing.{Compares, IsWrongOfTwo}
use Rattle.acas_top.specs.Counted.{AreSerial, counts_of}
use Rattle.acas_top.specs.Flying.{AnswersFlight}
use Rattle.acas_top.specs.Instances.{IsNotShown, Shows}
use Rattle.acas_top.specs.Many.{HasManyMore, TellsMany}
use Rattle.acas_top.specs.Pages.{page_lines}
use Rattle.acas_top.specs.Refusing.{Refuses, refused_line}
use Rattle.acas_top.specs.Summing.{summed_lines}
use Rattle.acas_top.specs.declared.explaining.Subject.{Subject}
use Rattle.acas_top.specs.declared.explaining.Subject.TheVariants as subjects
use Rattle.acas_top.specs.declared.status.Status.{Status}
use Rattle.acas_top.specs.declared.status.Status.TheVariants.{Done, Refused, Wrong}
use Rattle.acas_top.specs.Commands.{Command}
use Rattle.acas_top.specs.Commands as commands
use Rattle.acas_top.specs.declared.words.Plain.{Plain}
use Rattle.acas_top.specs.declared.words.Plain.TheVariants.{Audit, Compare, Decode, Explain, Gen, Instance, Many, Possible, Resume, Serial, Show, Sweep, Tell, Tracks, Vary}
use Rattle.acas_top.specs.declared.words.Threaded.{Threaded}
use Rattle.acas_top.specs.declared.words.Threaded.TheVariants.{Play, Sum}
use Rattle.acas_top.specs.Sweeping.{Sweeps}
use Rattle.acas_top.specs.Telling.{Draws, Tells}
use Rattle.acas_top.specs.Possible.{IsNotListed, Lists}
use Rattle.acas_top.specs.Varying.{IsNotVaried, Varies}
use Rattle.air_journal.specs.Airs.{air_of}
use Rattle.air_journal.specs.States.{State}
use Rattle.air_rules.specs.Journal.{Begins}
use Rattle.air_rules.specs.Priority.{HasPriority}
use Rattle.air_rules.specs.Rules.{IsComplete, IsLegal as IsLegalJournal}
use Rattle.air_rules.specs.Safe.{IsSafe}
use Rattle.air_rules.specs.Serial.{IsSerial}
use Rattle.air_rules.specs.Settled.{IsSettled}
use Rattle.comparison.specs.Splitting.{IsSplit}
use Rattle.enc_file.specs.Canonical.{canonical_text}
use Rattle.enc_file.specs.Codes.{code_number}
use Rattle.enc_file.specs.Reading.{Says, reading_of}
use Rattle.enc_file.specs.Records.{records_of}
use Rattle.enc_file.specs.declared.refusal.Refusal.{Refusal}
use Rattle.enc_file.specs.Records.{records_of}
use Rattle.enc_gen.specs.Generated.{generated}
use Rattle.fault_text.specs.Lines.{begins_recording, begins_tracks}
use Rattle.fault_text.specs.Told.{IsExplained}
use Rattle.acas_top.specs.Explaining.{right_encounter_lines, right_recording_lines, right_tracks_line}
use Rattle.rec_audit.specs.Explaining.{TellsSomething}
use Rattle.rec_audit.specs.Judging.{IsBeginningOf, IsPartLoaded, IsRecordingOf, Judged}
use Rattle.rec_audit.specs.Reasons.{reason_number}
use Rattle.rec_audit.specs.declared.verdict.Loaded.TheVariants as loaded
use Rattle.rec_audit.specs.declared.verdict.Reason.{Reason}
use Rattle.rec_audit.specs.declared.verdict.Reason.TheVariants.{Encounter}
use Rattle.rec_audit.specs.declared.verdict.Verdict.{Verdict}
use Rattle.rec_audit.specs.declared.verdict.Verdict.TheVariants as verdicts
use Rattle.rec_text.specs.Recording.{recording}
use Rattle.resume.specs.Filling.{IsFilled}
use Rattle.sweep.specs.declared.counts.Counts.{Counts}
use Rattle.track_text.specs.Codes.{fault_number}
use Rattle.track_text.specs.Conditions.{IsRefused}
use Rattle.track_text.specs.Reading.{Says as SaysTracks}
use Rattle.track_text.specs.Telling.{IsExplained as AreExplained}
use Rattle.track_text.specs.declared.refusal.Refusal.{Refusal as TrackRefusal}
use Rattle.word_text.specs.Lines.{word_text}

-- The journal, whose newest entry stands first, is legal and complete. No aircraft that gives way commits an advisory
-- in the sense that the message in force forbids (`safe`). Where that message was sent since the threat took its
-- present sense, the senses are opposite (`settled`). Which aircraft changes its sense, and why, follows the addresses
-- (`priority`).
pub record IsRun (e : Parts) (journal : List Entry) : Type 0 where
  pub legal : IsLegalJournal (air_of e) journal
  pub complete : IsComplete (air_of e) journal
  pub safe : IsSafe (air_of e) journal
  pub settled : IsSettled (air_of e) journal
  pub priority : HasPriority (air_of e) journal

-- The bytes say an encounter, and the text is the recording of its serial journal.
pub record Plays (bytes text : List ℕ) : Type 0 where
  pub encounter : Parts
  pub journal : List Entry
  pub says : Says bytes encounter
  pub serial : IsSerial (air_of encounter) journal
  pub run : IsRun encounter journal
  pub text_is : text ≡ recording encounter journal

-- The bytes say tracks, and the text is the canonical one of the encounter whose aircraft fly along them.
pub record Imports (bytes text : List ℕ) : Type 0 where
  pub encounter : Parts
  pub says : SaysTracks bytes encounter
  pub text_is : text ≡ canonical_text encounter

-- The bytes say no tracks along which aircraft can fly, and the text is the line of the refusal.
pub record RefusesTracks (bytes text : List ℕ) : Type 0 where
  pub refusal : TrackRefusal
  pub is : IsRefused (records_of bytes) refusal
  pub text_is : text ≡ refused_line refusal.at (fault_number refusal.fault)

-- The text is the canonical text of the encounter that is made from a number.
abbrev pub IsMade : Profile → ℕ → ℕ → ℕ → List ℕ → Type 0
IsMade profile number crafts cycles text = text ≡ canonical_text (generated profile number crafts cycles)

-- The text of a reason: its number, and after the number 1 the code of the encounter's refusal.
abbrev pub reason_text : Reason → List ℕ
reason_text (Encounter code) = codes "1," ++ decimal (code_number code)
reason_text reason = decimal (reason_number reason)

-- The line of a verdict.
abbrev pub verdict_line : Verdict → List ℕ
verdict_line (verdicts.Legal entries) = count_line (codes "legal") entries
verdict_line (verdicts.Wrong line reason) = codes "wrong," ++ decimal line ++ codes "," ++ reason_text reason ++ codes "\n"

-- The bytes are the recording of a legal and complete journal, and the text says how many entries it has.
pub record IsLegal (bytes text : List ℕ) : Type 0 where
  pub entries : ℕ
  pub is : Judged bytes (verdicts.Legal entries)
  pub text_is : text ≡ verdict_line (verdicts.Legal entries)

-- The bytes are no such recording, and the text says which line is the first wrong one, and why.
pub record IsWrong (bytes text : List ℕ) : Type 0 where
  pub line : ℕ
  pub reason : Reason
  pub is : Judged bytes (verdicts.Wrong line reason)
  pub text_is : text ≡ verdict_line (verdicts.Wrong line reason)

-- If the begun journal is a beginning of the serial one, the completed journal is the serial one.
abbrev pub IsSerialOf : Parts → List Entry → List Entry → Type 0
IsSerialOf e begun journal = (serial : List Entry) → IsSerial (air_of e) serial → Begins begun serial → journal ≡ serial

-- The bytes are a beginning of a recording, and the text is the recording of its journal, completed.
pub record Resumes (bytes text : List ℕ) : Type 0 where
  pub begun : State
  pub beginning : IsBeginningOf bytes begun
  pub journal : List Entry
  pub filled : IsFilled (air_of begun.encounter) begun.journal journal
  pub run : IsRun begun.encounter journal
  pub serial : IsSerialOf begun.encounter begun.journal journal
  pub text_is : text ≡ recording begun.encounter journal

-- The bytes are no such beginning, and the text says which line is the first wrong one, and why.
pub record IsWrongPart (bytes text : List ℕ) : Type 0 where
  pub line : ℕ
  pub reason : Reason
  pub is : IsPartLoaded bytes (loaded.Wrong line reason)
  pub text_is : text ≡ verdict_line (verdicts.Wrong line reason)

-- The bytes are no two recordings, and the text says which line is the first wrong one, and why.
pub record IsWrongPair (bytes text : List ℕ) : Type 0 where
  pub one : List ℕ
  pub other : List ℕ
  pub split : IsSplit bytes one other
  pub line : ℕ
  pub reason : Reason
  pub is : IsWrongOfTwo one other line reason
  pub text_is : text ≡ verdict_line (verdicts.Wrong line reason)

-- The bytes say an encounter, and the text is the recording of some journal of it.
pub record PlaysSome (bytes text : List ℕ) : Type 0 where
  pub encounter : Parts
  pub journal : List Entry
  pub says : Says bytes encounter
  pub run : IsRun encounter journal
  pub text_is : text ≡ recording encounter journal

-- The bytes say an encounter. The text says how many commits some journal of it has, and the counts of the serial one.
pub record Sums (bytes text : List ℕ) : Type 0 where
  pub encounter : Parts
  pub journal : List Entry
  pub counts : Counts
  pub says : Says bytes encounter
  pub run : IsRun encounter journal
  pub serial : AreSerial encounter counts
  pub text_is : text ≡ joined (summed_lines (counts_of encounter journal).commits counts)

-- The bytes say an encounter. The text says so, and what of it has no effect.
pub record IsFaultless (bytes text : List ℕ) : Type 0 where
  pub encounter : Parts
  pub says : Says bytes encounter
  pub text_is : text ≡ joined (right_encounter_lines (record { text = bytes; encounter = encounter }))

-- The bytes are the recording of a legal and complete journal. The text says so, and what of its encounter has no effect.
pub record IsLegalRecording (bytes text : List ℕ) : Type 0 where
  pub state : State
  pub recording_is : IsRecordingOf bytes state
  pub text_is : text ≡ joined (right_recording_lines (record { text = bytes; state = state }))

-- The bytes say tracks along which aircraft can fly, and the text is the line that says so.
pub record AreRightTracks (bytes text : List ℕ) : Type 0 where
  pub encounter : Parts
  pub says : SaysTracks bytes encounter
  pub text_is : text ≡ right_tracks_line encounter (length (records_of bytes))

-- What bytes are read as: a recording, a text of tracks, or an encounter. Their beginning tells.
abbrev pub read_as : List ℕ → Subject
read_as bytes = if begins_recording bytes then subjects.Recording else if begins_tracks bytes then subjects.Tracks else subjects.Encounter

-- Nothing is wrong.
abbrev pub IsRight : Subject → List ℕ → List ℕ → Type 0
IsRight subjects.Recording bytes text = IsLegalRecording bytes text
IsRight subjects.Tracks bytes text = AreRightTracks bytes text
IsRight subjects.Encounter bytes text = IsFaultless bytes text

-- The bytes say no encounter. The text is the line of the refusal, and the sentence of its fault.
pub record ExplainsRefusal (bytes text : List ℕ) : Type 0 where
  pub refusal : Refusal
  pub is : reading_of bytes ≡ Err refusal
  pub line : List ℕ
  pub explained : IsExplained bytes refusal line
  pub text_is : text ≡ refused_line refusal.at (code_number refusal.code) ++ line

-- The bytes say no tracks along which aircraft can fly. The text is the line of the refusal, and the sentence of its
-- fault.
pub record ExplainsTracks (bytes text : List ℕ) : Type 0 where
  pub refusal : TrackRefusal
  pub is : IsRefused (records_of bytes) refusal
  pub line : List ℕ
  pub explained : AreExplained bytes refusal line
  pub text_is : text ≡ refused_line refusal.at (fault_number refusal.fault) ++ line

abbrev pub IsFaulty : Subject → List ℕ → List ℕ → Type 0
IsFaulty subjects.Recording bytes text = ⊥
IsFaulty subjects.Tracks bytes text = ExplainsTracks bytes text
IsFaulty subjects.Encounter bytes text = ExplainsRefusal bytes text

-- The bytes are no recording of a legal and complete journal. The text is the line of the verdict, and the sentence that
-- tells why this line can't stand there.
pub record ExplainsWrong (bytes text : List ℕ) : Type 0 where
  pub line : ℕ
  pub reason : Reason
  pub is : Judged bytes (verdicts.Wrong line reason)
  pub told : List ℕ
  pub tells : TellsSomething bytes line reason told
  pub text_is : text ≡ verdict_line (verdicts.Wrong line reason) ++ told

abbrev pub IsWrongRecording : Subject → List ℕ → List ℕ → Type 0
IsWrongRecording subjects.Recording bytes text = ExplainsWrong bytes text
IsWrongRecording other bytes text = ⊥

-- What a run in threads writes. The bytes don't determine it: the order of the entries can differ from run to run.
abbrev pub Runs : Threaded → List ℕ → List ℕ → Type 0
Runs Play bytes text = PlaysSome bytes text
Runs Sum bytes text = Sums bytes text

-- This status and this text answer a plain command on the bytes that it read. The other statuses are no answers.
abbrev pub AnswersPlain : Plain → List ℕ → Status → List ℕ → Type 0
AnswersPlain Serial bytes Done text = Plays bytes text
AnswersPlain Serial bytes Refused text = Refuses bytes text
AnswersPlain Serial bytes status text = ⊥
AnswersPlain Audit bytes Done text = IsLegal bytes text
AnswersPlain Audit bytes Wrong text = IsWrong bytes text
AnswersPlain Audit bytes status text = ⊥
AnswersPlain (Gen number crafts cycles profile) bytes Done text = IsMade profile number crafts cycles text
AnswersPlain (Gen number crafts cycles profile) bytes status text = ⊥
AnswersPlain (Tell tool) bytes Done text = Tells tool bytes text
AnswersPlain (Tell tool) bytes Wrong text = IsWrong bytes text
AnswersPlain (Tell tool) bytes status text = ⊥
AnswersPlain (Sweep number count crafts cycles profile) bytes Done text = Sweeps (record { profile = profile; crafts = crafts; cycles = cycles }) number count text
AnswersPlain (Sweep number count crafts cycles profile) bytes status text = ⊥
AnswersPlain Tracks bytes Done text = Imports bytes text
AnswersPlain Tracks bytes Refused text = RefusesTracks bytes text
AnswersPlain Tracks bytes status text = ⊥
AnswersPlain (Vary variation) bytes Done text = Varies variation bytes text
AnswersPlain (Vary variation) bytes Refused text = IsNotVaried variation bytes text
AnswersPlain (Vary variation) bytes status text = ⊥
AnswersPlain (Possible scope) bytes Done text = Lists scope bytes text
AnswersPlain (Possible scope) bytes Refused text = IsNotListed scope bytes text
AnswersPlain (Possible scope) bytes status text = ⊥
AnswersPlain (Instance scope want) bytes Done text = Shows scope want bytes text
AnswersPlain (Instance scope want) bytes Refused text = IsNotShown scope want bytes text
AnswersPlain (Instance scope want) bytes status text = ⊥
AnswersPlain Many bytes Done text = TellsMany bytes text
AnswersPlain Many bytes Refused text = HasManyMore bytes text
AnswersPlain Many bytes status text = ⊥
AnswersPlain Resume bytes Done text = Resumes bytes text
AnswersPlain Resume bytes Wrong text = IsWrongPart bytes text
AnswersPlain Resume bytes status text = ⊥
AnswersPlain Compare bytes Done text = Compares bytes text
AnswersPlain Compare bytes Wrong text = IsWrongPair bytes text
AnswersPlain Compare bytes status text = ⊥
AnswersPlain Explain bytes Done text = IsRight (read_as bytes) bytes text
AnswersPlain Explain bytes Refused text = IsFaulty (read_as bytes) bytes text
AnswersPlain Explain bytes Wrong text = IsWrongRecording (read_as bytes) bytes text
AnswersPlain Explain bytes status text = ⊥
AnswersPlain (Decode word) bytes Done text = text ≡ word_text word
AnswersPlain (Decode word) bytes status text = ⊥
AnswersPlain (Show page) bytes Done text = text ≡ joined (page_lines page)
AnswersPlain (Show page) bytes status text = ⊥

-- This status and this text answer a command on the bytes that it read.
abbrev pub Answers : Command → List ℕ → Status → List ℕ → Type 0
Answers (commands.OfPlain plain) bytes status text = AnswersPlain plain bytes status text
Answers (commands.OfFlight names) bytes status text = AnswersFlight names bytes status text
Answers (commands.OfPicture labels) bytes Done text = Draws labels bytes text
Answers (commands.OfPicture labels) bytes Wrong text = IsWrong bytes text
Answers (commands.OfPicture labels) bytes status text = ⊥
Answers (commands.OfRun run) bytes Done text = Runs run bytes text
Answers (commands.OfRun run) bytes Refused text = Refuses bytes text
Answers (commands.OfRun run) bytes status text = ⊥
