-- How calls end: what is within the limit is not too long, and what the answer of a word is.
use Rattle.std.proofs.Common.{◌≡◌, ℕ, ◌≤◌, Bool, true, false, List, [], length, get_or, Option, Some, None, Result, Ok, Err, refl, ap, sym, ◌∙◌, subst, arith, inl, inr}
use Rattle.std.proofs.lemmas.Bool.{eq-eqb, false≢true}
use Rattle.std.specs.Prelude.{IsSomeAnd, codes, eqb, if◌then◌else◌}
use Rattle.std.specs.Option.{ForSome}
use Rattle.std.specs.Str.{bytes_eq}
use Rattle.acas_top.specs.Answers.{Answers, Plays, PlaysSome}
use Rattle.acas_io.specs.Faults.{Rose, one_more}
use Rattle.acas_io.specs.Stream.{Grew, Puts}
use Rattle.acas_top.specs.Ends.{Answered, Ended, IsAnswer, IsTooLong, IsUnread, Passed, WasPut, WasRead, status_after}
use Rattle.acas_top.specs.Statuses.{status_number}
use Rattle.acas_top.specs.Words.{AreNoCommand, AreNoFlight, AreNoList, AreNoPicture, AreNoPlain, AreNoQuiet, AreNoRun, IsCommand, Say, limit_of, most}
use Rattle.acas_top.specs.Given.{answer_status, answer_text}
use Rattle.acas_top.specs.declared.answers.Answer.{Answer}
use Rattle.acas_top.specs.declared.answers.Answer.TheVariants.{Compared, Decoded, ExplainedRefusal, ExplainedWrong, Said, Judged, Listed, Made, Many as AnswerMany, Recorded, Refused, RightEncounter, RightRecording, Shown, Summed, Swept, Told, Unmet, Varied}
use Rattle.acas_top.specs.declared.status.Status.{Status}
use Rattle.acas_top.specs.declared.status.Status.TheVariants as statuses
use Rattle.rec_audit.specs.declared.verdict.Verdict.TheVariants.{Legal, Wrong}
use Rattle.acas_top.specs.declared.status.Status.TheVariants.{Done, OutOfMemory, ReadFault, TooLong, Usage, WriteFault}
use Rattle.acas_top.specs.declared.words.Limit.{Limit}
use Rattle.acas_top.specs.declared.words.Limit.TheVariants as limits
use Rattle.acas_top.specs.Commands.{Command}
use Rattle.acas_top.specs.Commands as commands
use Rattle.acas_top.specs.declared.words.Page.TheVariants.{Help, Version}
use Rattle.pair_ways.specs.declared.scope.Scope.TheVariants.{Losses, Orders}
use Rattle.acas_top.specs.declared.words.Plain.TheVariants.{Audit, Compare, Decode, Explain, Gen, Instance, Many, Possible, Resume, Serial, Show, Sweep, Tell, Tracks, Vary}
use Rattle.acas_top.specs.declared.words.Threaded.{Threaded}
use Rattle.acas_top.specs.declared.words.Threaded.TheVariants.{Play, Sum}
use Rattle.acas_top.specs.declared.words.Tool.TheVariants.{Messages, Picture, Places, Reports, Response, Summary, Watch, Why}

pub within-long : (limit : Option Limit) (left : Option (List ℕ)) → IsTooLong limit left → ForSome limit (λ n. IsSomeAnd left (λ bytes. length bytes ≤ most n bytes)) → ⊥
within-long None left long within = long
within-long (Some n) None long within = within n refl
within-long (Some n) (Some bytes) long within = omega (arith, long, within n refl)

-- The first word is this one.
abbrev begins-with : List ℕ → List (List ℕ) → Bool
begins-with word words = bytes_eq (get_or words 0 []) word

-- No words begin with two words.
clash : (word : List ℕ) (words one other : List (List ℕ)) → words ≡ one → words ≡ other → begins-with word one ≡ false → begins-with word other ≡ true → ⊥
clash word words one other is also unlike like = false≢true (sym unlike ∙ ap (begins-with word) (sym is ∙ also) ∙ like)

-- The limit of a command, from the first of the words that say it.
abbrev limit-by : List (List ℕ) → Option Limit
limit-by words =
    if begins-with (codes "gen") words then None
    else if begins-with (codes "sweep") words then None
    else if begins-with (codes "decode") words then None
    else if begins-with (codes "--help") words then None
    else if begins-with (codes "-h") words then None
    else if begins-with (codes "help") words then None
    else if begins-with (codes "--version") words then None
    else if begins-with (codes "serial") words then Some limits.Encounter
    else if begins-with (codes "tracks") words then Some limits.Encounter
    else if begins-with (codes "play") words then Some limits.Encounter
    else if begins-with (codes "sum") words then Some limits.Encounter
    else if begins-with (codes "fly") words then Some limits.Encounter
    else if begins-with (codes "vary") words then Some limits.Encounter
    else if begins-with (codes "orders") words then Some limits.Encounter
    else if begins-with (codes "losses") words then Some limits.Encounter
    else if begins-with (codes "instance") words then Some limits.Encounter
    else if begins-with (codes "explain") words then Some limits.Either
    else Some limits.Recording

limit-said : (words : List (List ℕ)) (command : Command) → Say words command → limit_of command ≡ limit-by words
limit-said words (commands.OfPlain Serial) said = sym (ap limit-by said)
limit-said words (commands.OfPlain Audit) said = sym (ap limit-by said)
limit-said words (commands.OfPlain (Gen number crafts cycles profile)) said = sym (ap limit-by said)
limit-said words (commands.OfPlain (Tell Messages)) said = sym (ap limit-by said)
limit-said words (commands.OfPlain (Tell Picture)) said = sym (ap limit-by said)
limit-said words (commands.OfPlain (Tell Places)) said = sym (ap limit-by said)
limit-said words (commands.OfPlain (Tell Reports)) said = sym (ap limit-by said)
limit-said words (commands.OfPlain (Tell Response)) said = sym (ap limit-by said)
limit-said words (commands.OfPlain (Tell Summary)) said = sym (ap limit-by said)
limit-said words (commands.OfPlain (Tell Watch)) said = sym (ap limit-by said)
limit-said words (commands.OfPlain (Tell Why)) said = sym (ap limit-by said)
limit-said words (commands.OfPlain (Sweep number count crafts cycles profile)) said = sym (ap limit-by said)
limit-said words (commands.OfPlain Resume) said = sym (ap limit-by said)
limit-said words (commands.OfPlain Tracks) said = sym (ap limit-by said)
limit-said words (commands.OfPlain (Vary variation)) said = sym (ap limit-by said)
limit-said words (commands.OfPlain (Possible Orders)) said = sym (ap limit-by said)
limit-said words (commands.OfPlain (Possible Losses)) said = sym (ap limit-by said)
limit-said words (commands.OfPlain (Instance scope want)) said = sym (ap limit-by said)
limit-said words (commands.OfPlain Compare) said = sym (ap limit-by said)
limit-said words (commands.OfPlain Many) said = sym (ap limit-by said)
limit-said words (commands.OfPlain (Decode word)) said = sym (ap limit-by said)
limit-said words (commands.OfPlain Explain) said = sym (ap limit-by said)
limit-said words (commands.OfPlain (Show Help)) (inl said) = sym (ap limit-by said)
limit-said words (commands.OfPlain (Show Help)) (inr (inl said)) = sym (ap limit-by said)
limit-said words (commands.OfPlain (Show Help)) (inr (inr said)) = sym (ap limit-by said)
limit-said words (commands.OfPlain (Show Version)) said = sym (ap limit-by said)
limit-said words (commands.OfFlight names) said = sym (ap limit-by said.is)
limit-said words (commands.OfPicture labels) said = sym (ap limit-by said.is)
limit-said words (commands.OfRun Play) said = sym (ap limit-by said)
limit-said words (commands.OfRun Sum) said = sym (ap limit-by said)

-- Commands that the same words say have one limit.
pub one-limit : (words : List (List ℕ)) (one other : Command) → Say words one → Say words other → limit_of one ≡ limit_of other
one-limit words one other said also = limit-said words one said ∙ sym (limit-said words other also)

-- The words of the serial run say no other command.
only-serial : (words : List (List ℕ)) (bytes text : List ℕ) (command : Command) → Say words command → Say words (commands.OfPlain Serial) → Answers command bytes Done text → Plays bytes text
only-serial words bytes text (commands.OfPlain Serial) said also plays = plays
only-serial words bytes text (commands.OfPlain (Tell Messages)) said also plays = absurd (clash (codes "serial") words _ _ said also refl refl)
only-serial words bytes text (commands.OfPlain (Tell Picture)) said also plays = absurd (clash (codes "serial") words _ _ said also refl refl)
only-serial words bytes text (commands.OfPlain (Tell Places)) said also plays = absurd (clash (codes "serial") words _ _ said also refl refl)
only-serial words bytes text (commands.OfPlain (Tell Reports)) said also plays = absurd (clash (codes "serial") words _ _ said also refl refl)
only-serial words bytes text (commands.OfPlain (Tell Response)) said also plays = absurd (clash (codes "serial") words _ _ said also refl refl)
only-serial words bytes text (commands.OfPlain (Tell Summary)) said also plays = absurd (clash (codes "serial") words _ _ said also refl refl)
only-serial words bytes text (commands.OfPlain (Tell Watch)) said also plays = absurd (clash (codes "serial") words _ _ said also refl refl)
only-serial words bytes text (commands.OfPlain (Tell Why)) said also plays = absurd (clash (codes "serial") words _ _ said also refl refl)
only-serial words bytes text (commands.OfPlain (Show Help)) (inl said) also plays = absurd (clash (codes "serial") words _ _ said also refl refl)
only-serial words bytes text (commands.OfPlain (Show Help)) (inr (inl said)) also plays = absurd (clash (codes "serial") words _ _ said also refl refl)
only-serial words bytes text (commands.OfPlain (Show Help)) (inr (inr said)) also plays = absurd (clash (codes "serial") words _ _ said also refl refl)
only-serial words bytes text (commands.OfPlain (Show Version)) said also plays = absurd (clash (codes "serial") words _ _ said also refl refl)
only-serial words bytes text (commands.OfPlain (Possible Orders)) said also plays = absurd (clash (codes "serial") words _ _ said also refl refl)
only-serial words bytes text (commands.OfPlain (Possible Losses)) said also plays = absurd (clash (codes "serial") words _ _ said also refl refl)
only-serial words bytes text (commands.OfPlain plain) said also plays = absurd (clash (codes "serial") words _ _ said also refl refl)
only-serial words bytes text (commands.OfFlight names) said also plays = absurd (clash (codes "serial") words _ _ said.is also refl refl)
only-serial words bytes text (commands.OfPicture labels) said also plays = absurd (clash (codes "serial") words _ _ said.is also refl refl)
only-serial words bytes text (commands.OfRun Play) said also plays = absurd (clash (codes "serial") words _ _ said also refl refl)
only-serial words bytes text (commands.OfRun Sum) said also plays = absurd (clash (codes "serial") words _ _ said also refl refl)

-- The words of `play` say no other run in threads.
only-play : (words : List (List ℕ)) (bytes text : List ℕ) (run : Threaded) → Say words (commands.OfRun run) → Say words (commands.OfRun Play) → Answers (commands.OfRun run) bytes Done text → PlaysSome bytes text
only-play words bytes text Play said also plays = plays
only-play words bytes text Sum said also plays = absurd (clash (codes "play") words _ _ said also refl refl)

-- A command was done, and its words are those of the serial run.
pub done-serial : (command : Command) (words : List (List ℕ)) (old new : Option (List ℕ)) (bytes text : List ℕ) (IsPut : List ℕ → Type 0)
    → Say words command → Answers command bytes Done text → WasRead (limit_of command) old new bytes → IsPut text → Say words (commands.OfPlain Serial) → Passed (limit_of (commands.OfPlain Serial)) Plays old new IsPut
done-serial command words old new bytes text IsPut said answers read put also = record {
  bytes = bytes;
  text = text;
  read = subst (λ (limit : Option Limit). WasRead limit old new bytes) (one-limit words command (commands.OfPlain Serial) said also) read;
  relates = only-serial words bytes text command said also answers;
  put = put;
}

-- A run in threads was done, and its words are those of `play`.
pub done-play : (run : Threaded) (words : List (List ℕ)) (old new : Option (List ℕ)) (bytes text : List ℕ) (IsPut : List ℕ → Type 0)
    → Say words (commands.OfRun run) → Answers (commands.OfRun run) bytes Done text → WasRead (limit_of (commands.OfRun run)) old new bytes → IsPut text → Say words (commands.OfRun Play)
    → Passed (limit_of (commands.OfRun Play)) PlaysSome old new IsPut
done-play run words old new bytes text IsPut said answers read put also = record {
  bytes = bytes;
  text = text;
  read = read;
  relates = only-play words bytes text run said also answers;
  put = put;
}

-- Words that say neither a command that waits for nobody nor a run in threads say none.
pub none-at-all : (words : List (List ℕ)) → AreNoQuiet words → AreNoRun words → AreNoCommand words
none-at-all words quiet threaded (commands.OfPlain command) is = quiet.0 command is
none-at-all words quiet threaded (commands.OfFlight names) is = quiet.1.0 names
none-at-all words quiet threaded (commands.OfPicture labels) is = quiet.1.1 labels
none-at-all words quiet threaded (commands.OfRun run) is = threaded run

-- What a call says of words that say none of its commands, where it is a part of a call with more commands.
wider-ends : {S K : Type 0} {IsNone IsNoneAtAll : Type 0} {words : List (List ℕ)} {status : Status} {left : S → Option (List ℕ)} {reads : S → ℕ} {source source_new : S} {written : K → Option (List ℕ)} {writes : K → ℕ} {sink sink_new : K}
    → (IsNone → IsNoneAtAll) → (IsNoneAtAll → IsNone) → Ended IsNone words status left reads source source_new written writes sink sink_new → Ended IsNoneAtAll words status left reads source source_new written writes sink sink_new
wider-ends all part ended = record {
  usage = (λ is. all (ended.usage.0 is), λ none. ended.usage.1 (part none));
  untouched = ended.untouched;
  answered = ended.answered;
  read_fault = ended.read_fault;
  write_fault = ended.write_fault;
  too_long = ended.too_long;
  memory = ended.memory;
  no_read_fault = ended.no_read_fault;
  no_write_fault = ended.no_write_fault;
  unread = ended.unread;
  complete = λ some. ended.complete (λ none. some (all none));
}

-- What the call of `picture` with labels says of words that don't say `fly`.
pub picture-ends : {S K : Type 0} {words : List (List ℕ)} {status : Status} {left : S → Option (List ℕ)} {reads : S → ℕ} {source source_new : S} {written : K → Option (List ℕ)} {writes : K → ℕ} {sink sink_new : K}
    → AreNoFlight words → Ended (AreNoPicture words) words status left reads source source_new written writes sink sink_new → Ended (AreNoList words) words status left reads source source_new written writes sink sink_new
picture-ends no_flight ended = wider-ends (λ no_picture. (no_flight, no_picture)) (λ none. none.1) ended

-- What the call of `fly` says of words that say no plain command.
pub flight-ends : {S K : Type 0} {words : List (List ℕ)} {status : Status} {left : S → Option (List ℕ)} {reads : S → ℕ} {source source_new : S} {written : K → Option (List ℕ)} {writes : K → ℕ} {sink sink_new : K}
    → AreNoPlain words → Ended (AreNoList words) words status left reads source source_new written writes sink sink_new → Ended (AreNoQuiet words) words status left reads source source_new written writes sink sink_new
flight-ends no_plain ended = wider-ends (λ no_list. (no_plain, no_list)) (λ none. none.1) ended

-- A count that is one more rose.
risen : (before now : ℕ) → now ≡ one_more before → Rose before now
risen before now is = omega (arith, is)

-- Statuses of different numbers are different.
differ : (one other : Status) → eqb (status_number one) (status_number other) ≡ false → one ≡ other → ⊥
differ one other unlike is = false≢true (sym unlike ∙ eq-eqb (status_number one) (status_number other) (ap status_number is))

-- The words say no command.
pub unsaid-ends : {S K : Type 0} {IsNone : Type 0} {words : List (List ℕ)} {left : S → Option (List ℕ)} {reads : S → ℕ} {source : S} {written : K → Option (List ℕ)} {writes : K → ℕ} {sink : K}
    → IsNone → Ended IsNone words Usage left reads source source written writes sink sink
unsaid-ends none = record {
  usage = (λ _. none, λ _. refl);
  untouched = λ _. (refl, refl);
  answered = λ is. absurd is;
  read_fault = λ is. absurd (differ _ _ refl is);
  write_fault = λ is. absurd (differ _ _ refl is);
  too_long = λ is. absurd (differ _ _ refl is);
  memory = λ is. absurd (differ _ _ refl is);
  no_read_fault = λ _. refl;
  no_write_fault = λ _. refl;
  unread = λ _ _ _. refl;
  complete = λ some. absurd (some none);
}

-- What the plain call says of words that say no run in threads.
pub plain-ends : {S K : Type 0} {words : List (List ℕ)} {status : Status} {left : S → Option (List ℕ)} {reads : S → ℕ} {source source_new : S} {written : K → Option (List ℕ)} {writes : K → ℕ} {sink sink_new : K}
    → AreNoRun words → Ended (AreNoQuiet words) words status left reads source source_new written writes sink sink_new → Ended (AreNoCommand words) words status left reads source source_new written writes sink sink_new
plain-ends {words = words} no_run ended =
    wider-ends (λ quiet. none-at-all words quiet no_run) (λ none. (λ plain. none (commands.OfPlain plain), (λ names. none (commands.OfFlight names) tt, λ labels. none (commands.OfPicture labels) tt))) ended

-- Another command that the words say, and that reads nothing, leaves the source as it was, too.
still-unread : {S : Type 0} (words : List (List ℕ)) (command : Command) {source source_new : S} → Say words command → (limit_of command ≡ None → source_new ≡ source)
    → (other : Command) → Say words other → limit_of other ≡ None → source_new ≡ source
still-unread words command said still other also none = still (one-limit words command other said also ∙ none)

-- Memory was wanting.
pub wanting-ends : {S K : Type 0} {IsNone : Type 0} {words : List (List ℕ)} {left : S → Option (List ℕ)} {reads : S → ℕ} {source source_new : S} {written : K → Option (List ℕ)} {writes : K → ℕ} {sink : K}
    → (command : Command) → Say words command → (IsNone → ⊥) → (limit_of command ≡ None → source_new ≡ source) → reads source_new ≡ reads source
    → Ended IsNone words OutOfMemory left reads source source_new written writes sink sink
wanting-ends {words = words} command said some still same = record {
  usage = (λ is. absurd (differ _ _ refl is), λ none. absurd (some none));
  untouched = λ is. absurd (differ _ _ refl is);
  answered = λ is. absurd is;
  read_fault = λ is. absurd (differ _ _ refl is);
  write_fault = λ is. absurd (differ _ _ refl is);
  too_long = λ is. absurd (differ _ _ refl is);
  memory = λ _. refl;
  no_read_fault = λ _. same;
  no_write_fault = λ _. refl;
  unread = still-unread words command said still;
  complete = λ _ _ _ _. inr refl;
}

-- What a command reads couldn't be read.
pub unread-ends : {S K : Type 0} {IsNone : Type 0} {words : List (List ℕ)} {left : S → Option (List ℕ)} {reads : S → ℕ} {source source_new : S} {written : K → Option (List ℕ)} {writes : K → ℕ} {sink : K}
    → (command : Command) (status : Status) → Say words command → (IsNone → ⊥) → (limit_of command ≡ None → source_new ≡ source)
    → IsUnread status (limit_of command) (left source) (reads source) (reads source_new) → Ended IsNone words status left reads source source_new written writes sink sink
unread-ends {words = words} command ReadFault said some still rose = record {
  usage = (λ is. absurd (differ _ _ refl is), λ none. absurd (some none));
  untouched = λ is. absurd (differ _ _ refl is);
  answered = λ is. absurd is;
  read_fault = λ _. (rose, refl);
  write_fault = λ is. absurd (differ _ _ refl is);
  too_long = λ is. absurd (differ _ _ refl is);
  memory = λ is. absurd (differ _ _ refl is);
  no_read_fault = λ other. absurd (other refl);
  no_write_fault = λ _. refl;
  unread = still-unread words command said still;
  complete = λ _ _ unrisen _. absurd (unrisen (risen _ _ rose));
}
unread-ends {words = words} command TooLong said some still long = record {
  usage = (λ is. absurd (differ _ _ refl is), λ none. absurd (some none));
  untouched = λ is. absurd (differ _ _ refl is);
  answered = λ is. absurd is;
  read_fault = λ is. absurd (differ _ _ refl is);
  write_fault = λ is. absurd (differ _ _ refl is);
  too_long = λ _. (refl, (command, said, long.0));
  memory = λ is. absurd (differ _ _ refl is);
  no_read_fault = λ _. long.1;
  no_write_fault = λ _. refl;
  unread = still-unread words command said still;
  complete = λ _ within _ _. absurd (within-long _ _ long.0 (within command said));
}
unread-ends command OutOfMemory said some still same = wanting-ends command said some still same
unread-ends command status said some still unread = absurd unread

-- An answer was put out, whole.
whole-ends : {S K : Type 0} {IsNone : Type 0} {words : List (List ℕ)} {left : S → Option (List ℕ)} {reads : S → ℕ} {source source_new : S} {written : K → Option (List ℕ)} {writes : K → ℕ} {sink sink_new : K}
    → (status : Status) → (IsNone → ⊥) → IsAnswer status → Answered words status (left source) (left source_new) (Grew (written sink) (written sink_new))
    → ((other : Command) → Say words other → limit_of other ≡ None → source_new ≡ source) → reads source_new ≡ reads source → writes sink_new ≡ writes sink
    → Ended IsNone words status left reads source source_new written writes sink sink_new
whole-ends status some answer answered still read_count write_count = record {
  usage = (λ is. absurd (subst IsAnswer is answer), λ none. absurd (some none));
  untouched = λ is. absurd (subst IsAnswer is answer);
  answered = λ _. answered;
  read_fault = λ is. absurd (subst IsAnswer is answer);
  write_fault = λ is. absurd (subst IsAnswer is answer);
  too_long = λ is. absurd (subst IsAnswer is answer);
  memory = λ is. absurd (subst IsAnswer is answer);
  no_read_fault = λ _. read_count;
  no_write_fault = λ _. write_count;
  unread = still;
  complete = λ _ _ _ _. inl answer;
}

-- The answer to a command on the bytes that it read was put out, or a front of it.
pub put-ends : {S K : Type 0} {IsNone : Type 0} {words : List (List ℕ)} {left : S → Option (List ℕ)} {reads : S → ℕ} {source source_new : S} {written : K → Option (List ℕ)} {writes : K → ℕ} {sink sink_new : K}
    → (command : Command) (bytes text : List ℕ) (own status : Status) → Say words command → IsCommand command → (IsNone → ⊥)
    → (limit_of command ≡ None → source_new ≡ source) → WasRead (limit_of command) (left source) (left source_new) bytes → reads source_new ≡ reads source → Answers command bytes own text
    → WasPut status own text (written sink) (written sink_new) (writes sink) (writes sink_new) → Ended IsNone words status left reads source source_new written writes sink sink_new
put-ends {words = words} command bytes text own WriteFault said is some still read read_count answers put = record {
  usage = (λ same. absurd (differ _ _ refl same), λ none. absurd (some none));
  untouched = λ same. absurd (differ _ _ refl same);
  answered = λ same. absurd same;
  read_fault = λ same. absurd (differ _ _ refl same);
  write_fault = λ _. (put.1, (own, record { command = command; is = is; said = said; bytes = bytes; read = read; text = text; answers = answers; put = put.0 }));
  too_long = λ same. absurd (differ _ _ refl same);
  memory = λ same. absurd (differ _ _ refl same);
  no_read_fault = λ _. read_count;
  no_write_fault = λ other. absurd (other refl);
  unread = still-unread words command said still;
  complete = λ _ _ _ unrisen. absurd (unrisen put.1);
}
put-ends {words = words} command bytes text own status said is some still read read_count answers put =
    whole-ends status some put.1 (record { command = command; is = is; said = said; bytes = bytes; read = read; text = text; answers = subst (λ (s : Status). Answers command bytes s text) (sym put.0) answers; put = put.2 })
    (still-unread words command said still) read_count put.3

-- What was put out with the status Done is the whole text of an answer of this status.
pub put-done : (own status : Status) (text : List ℕ) (old new : Option (List ℕ)) (faults now : ℕ) → status ≡ Done → WasPut status own text old new faults now → (own ≡ Done) × Grew old new text
put-done own WriteFault text old new faults now done put = absurd (differ WriteFault Done refl done)
put-done own status text old new faults now done put = (sym put.0 ∙ done, put.2)

-- The status of an answer is one of the three.
is-answer : (answer : Answer) → IsAnswer (answer_status answer)
is-answer (Recorded state) = tt
is-answer (Made encounter) = tt
is-answer (Told text) = tt
is-answer (Swept swept) = tt
is-answer (Varied varied) = tt
is-answer (Listed listed) = tt
is-answer (AnswerMany list) = tt
is-answer (Summed commits counts) = tt
is-answer (Compared one other found) = tt
is-answer (Decoded word) = tt
is-answer (Shown page) = tt
is-answer (Judged (Legal entries)) = tt
is-answer (Judged (Wrong line reason)) = tt
is-answer (Said line) = tt
is-answer (RightEncounter right) = tt
is-answer (RightRecording right) = tt
is-answer (ExplainedRefusal at code told) = tt
is-answer (ExplainedWrong line reason told) = tt
is-answer (Unmet line) = tt
is-answer (Refused at code) = tt

own-put : (own : Status) (text : List ℕ) (old new : Option (List ℕ)) (faults now : ℕ) → IsAnswer own → Grew old new text → now ≡ faults → WasPut own own text old new faults now
own-put Done text old new faults now is grew same = (refl, tt, grew, same)
own-put statuses.Refused text old new faults now is grew same = (refl, tt, grew, same)
own-put statuses.Wrong text old new faults now is grew same = (refl, tt, grew, same)
own-put own text old new faults now is grew same = absurd is

-- A whole text was put out and the status of its answer is given, or a write failed.
pub text-put : {T E : Type 0} (own status : Status) (text : List ℕ) (put : Result T E) (old new : Option (List ℕ)) (faults now : ℕ) → IsAnswer own → status ≡ status_after own put
    → Puts old new faults now text put → WasPut status own text old new faults now
text-put own status text (Ok unit) old new faults now is same puts =
    subst (λ (s : Status). WasPut s own text old new faults now) (sym same) (own-put own text old new faults now is puts.0 puts.1)
text-put own status text (Err error) old new faults now is same puts = subst (λ (s : Status). WasPut s own text old new faults now) (sym same) puts

-- The same of an answer.
pub was-put : {T E : Type 0} (answer : Answer) (own status : Status) (put : Result T E) (old new : Option (List ℕ)) (faults now : ℕ) → own ≡ answer_status answer → status ≡ status_after own put
    → Puts old new faults now (answer_text answer) put → WasPut status (answer_status answer) (answer_text answer) old new faults now
was-put answer own status put old new faults now is same puts =
    text-put (answer_status answer) status (answer_text answer) put old new faults now (is-answer answer) (same ∙ ap (λ (s : Status). status_after s put) is) puts
