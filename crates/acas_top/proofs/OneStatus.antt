-- At most one status answers a command on the bytes that it read.
use Rattle.std.proofs.Common.{◌≡◌, ◌∙◌, List, ℕ, Result, Ok, Err, ap, ap₂, arith, inl, inr, length, refl, subst, sym}
use Rattle.std.proofs.lemmas.Option.{none-some}
use Rattle.acas_top.specs.declared.explaining.Subject.{Subject}
use Rattle.acas_top.specs.declared.explaining.Subject.TheVariants as subjects
use Rattle.acas_top.specs.Answers.{Answers, AnswersPlain, Imports, IsFaulty, IsLegal, IsRight, IsWrong, IsWrongPair, IsWrongPart, IsWrongRecording, Plays, RefusesTracks, Resumes, Runs, read_as}
use Rattle.acas_top.specs.Flying.{AnswersFlight, Flies, IsNotFlown, named_in, unnamed_in}
use Rattle.acas_top.specs.Many.{HasManyMore, TellsMany}
use Rattle.acas_top.specs.Instances.{IsNotShown, Shows, sought_in}
use Rattle.acas_top.specs.Possible.{IsNotListed, Lists}
use Rattle.report_words.specs.declared.wanted.Wanted.{Wanted}
use Rattle.acas_top.specs.Refusing.{Refuses}
use Rattle.acas_top.specs.Varying.{IsNotVaried, Varies, changes_of, unknown_in}
use Rattle.air_journal.specs.Airs.{air_of}
use Rattle.acas_base.specs.declared.entry.Entry.{Entry}
use Rattle.air_rules.specs.Air.{Air}
use Rattle.air_rules.specs.Serial.{IsSerial}
use Rattle.variation_words.specs.declared.variation.Variation.{Variation}
use Rattle.enc_file.specs.Reading.{Says}
use Rattle.followed_advice.specs.Following.{Follows, Leaves}
use Rattle.pair_ways.specs.declared.scope.Scope.{Scope}
use Rattle.pieces.specs.Pieces.{AreCut}
use Rattle.possibilities.specs.Rows.{IsPastBound}
use Rattle.acas_top.specs.Comparing.{Compares, IsWrongOfTwo, in_first, in_second}
use Rattle.air_journal.specs.States.{State}
use Rattle.comparison.specs.Splitting.{IsSplit}
use Rattle.rec_audit.specs.Judging.{IsPartLoaded, IsRecordingOf, Judged}
use Rattle.rec_audit.specs.declared.verdict.Reason.{Reason}
use Rattle.rec_audit.specs.declared.verdict.Loaded.{Loaded}
use Rattle.rec_audit.specs.declared.verdict.Loaded.TheVariants as loaded
use Rattle.rec_audit.specs.declared.verdict.Verdict.{Verdict}
use Rattle.rec_audit.specs.declared.verdict.Verdict.TheVariants as verdicts
use Rattle.acas_top.specs.declared.status.Status.{Status}
use Rattle.acas_top.specs.declared.status.Status.TheVariants.{Done, Refused, Wrong}
use Rattle.acas_top.specs.Commands.{Command}
use Rattle.acas_top.specs.Commands as commands
use Rattle.acas_top.specs.declared.words.Plain.{Plain}
use Rattle.acas_top.specs.declared.words.Plain.TheVariants.{Audit, Compare, Decode, Explain, Gen, Instance, Many, Possible, Resume, Serial, Show, Sweep, Tell, Tracks, Vary}
use Rattle.acas_top.specs.declared.words.Threaded.{Threaded}
use Rattle.acas_top.specs.declared.words.Threaded.TheVariants.{Play, Sum}
use Rattle.acas_base.specs.Encounter.{Parts}
use Rattle.acas_top.specs.Telling.{Describes, Draws, Tells}
use Rattle.labels.specs.Labels.{LabelWords}
use Rattle.enc_file.specs.Records.{records_of}
use Rattle.track_text.specs.Conditions.{IsRefused}
use Rattle.track_text.specs.Reading.{Says as SaysTracks}
use Rattle.track_text.specs.declared.refusal.Refusal.{Refusal as TrackRefusal}
use Rattle.acas_top.specs.declared.words.Tool.{Tool}

-- What can be played has no cause to be refused.
not-both : (bytes text other : List ℕ) → Plays bytes text → Refuses bytes other → ⊥
not-both bytes text other played refused = let one = played.says in let two = refused.is in cc

done-only : (bytes text other : List ℕ) (also : Status) → Plays bytes text → AnswersPlain Serial bytes also other → Done ≡ also
done-only bytes text other Done played is = refl
done-only bytes text other Refused played is = absurd (not-both bytes text other played is)
done-only bytes text other also played is = absurd is

refused-only : (bytes text other : List ℕ) (also : Status) → Refuses bytes text → AnswersPlain Serial bytes also other → Refused ≡ also
refused-only bytes text other Done refused is = absurd (not-both bytes other text is refused)
refused-only bytes text other Refused refused is = refl
refused-only bytes text other also refused is = absurd is

-- Bytes that say an encounter by tracks aren't refused.
abbrev pub HasOneImport : Type 0
HasOneImport = (bytes : List ℕ) (e : Parts) (refusal : TrackRefusal) → SaysTracks bytes e → IsRefused (records_of bytes) refusal → ⊥

imported-only : HasOneImport → (bytes text other : List ℕ) (also : Status) → Imports bytes text → AnswersPlain Tracks bytes also other → Done ≡ also
imported-only law bytes text other Done made is = refl
imported-only law bytes text other Refused made is = absurd (law bytes made.encounter is.refusal made.says is.is)
imported-only law bytes text other also made is = absurd is

not-imported-only : HasOneImport → (bytes text other : List ℕ) (also : Status) → RefusesTracks bytes text → AnswersPlain Tracks bytes also other → Refused ≡ also
not-imported-only law bytes text other Done refused is = absurd (law bytes is.encounter refused.refusal is.says refused.is)
not-imported-only law bytes text other Refused refused is = refl
not-imported-only law bytes text other also refused is = absurd is

-- At most one verdict is given on bytes.
abbrev pub HasOneVerdict : Type 0
HasOneVerdict = (bytes : List ℕ) (one two : Verdict) → Judged bytes one → Judged bytes two → one ≡ two

-- A recording that is legal isn't wrong.
not-wrong : HasOneVerdict → (bytes text other : List ℕ) → IsLegal bytes text → IsWrong bytes other → ⊥
not-wrong law bytes text other legal wrong =
    let same = law bytes (verdicts.Legal legal.entries) (verdicts.Wrong wrong.line wrong.reason) legal.is wrong.is in
    cc

legal-only : HasOneVerdict → (bytes text other : List ℕ) (also : Status) → IsLegal bytes text → AnswersPlain Audit bytes also other → Done ≡ also
legal-only law bytes text other Done legal is = refl
legal-only law bytes text other Wrong legal is = absurd (not-wrong law bytes text other legal is)
legal-only law bytes text other also legal is = absurd is

wrong-only : HasOneVerdict → (bytes text other : List ℕ) (also : Status) → IsWrong bytes text → AnswersPlain Audit bytes also other → Wrong ≡ also
wrong-only law bytes text other Done wrong is = absurd (not-wrong law bytes other text is wrong)
wrong-only law bytes text other Wrong wrong is = refl
wrong-only law bytes text other also wrong is = absurd is

-- What a text describes isn't wrong.
not-told : HasOneVerdict → (lines : Parts → List Entry → List (List ℕ)) (bytes text other : List ℕ) → Describes lines bytes text → IsWrong bytes other → ⊥
not-told law lines bytes text other told wrong =
    let same = law bytes (verdicts.Legal (length told.state.journal)) (verdicts.Wrong wrong.line wrong.reason) (record { state = told.state; recording = told.recording; count = refl }) wrong.is in
    cc

told-only : HasOneVerdict → (tool : Tool) (bytes text other : List ℕ) (also : Status) → Tells tool bytes text → AnswersPlain (Tell tool) bytes also other → Done ≡ also
told-only law tool bytes text other Done told is = refl
told-only law tool bytes text other Wrong told is = absurd (not-told law _ bytes text other told is)
told-only law tool bytes text other also told is = absurd is

untold-only : HasOneVerdict → (tool : Tool) (bytes text other : List ℕ) (also : Status) → IsWrong bytes text → AnswersPlain (Tell tool) bytes also other → Wrong ≡ also
untold-only law tool bytes text other Done wrong is = absurd (not-told law _ bytes other text is wrong)
untold-only law tool bytes text other Wrong wrong is = refl
untold-only law tool bytes text other also wrong is = absurd is

drawn-only : HasOneVerdict → (labels : LabelWords) (bytes text other : List ℕ) (also : Status) → Draws labels bytes text → Answers (commands.OfPicture labels) bytes also other → Done ≡ also
drawn-only law labels bytes text other Done drawn is = refl
drawn-only law labels bytes text other Wrong drawn is = absurd (not-told law _ bytes text other drawn is)
drawn-only law labels bytes text other also drawn is = absurd is

undrawn-only : HasOneVerdict → (labels : LabelWords) (bytes text other : List ℕ) (also : Status) → IsWrong bytes text → Answers (commands.OfPicture labels) bytes also other → Wrong ≡ also
undrawn-only law labels bytes text other Done wrong is = absurd (not-told law _ bytes other text is wrong)
undrawn-only law labels bytes text other Wrong wrong is = refl
undrawn-only law labels bytes text other also wrong is = absurd is

-- At most one thing is loaded from bytes as a beginning.
abbrev pub HasOnePart : Type 0
HasOnePart = (bytes : List ℕ) (one two : Loaded) → IsPartLoaded bytes one → IsPartLoaded bytes two → one ≡ two

-- A beginning isn't wrong.
not-wrong-part : HasOnePart → (bytes text other : List ℕ) → Resumes bytes text → IsWrongPart bytes other → ⊥
not-wrong-part law bytes text other resumes wrong =
    let same = law bytes (loaded.Legal resumes.begun) (loaded.Wrong wrong.line wrong.reason) resumes.beginning wrong.is in
    cc

resumed-only : HasOnePart → (bytes text other : List ℕ) (also : Status) → Resumes bytes text → AnswersPlain Resume bytes also other → Done ≡ also
resumed-only law bytes text other Done resumes is = refl
resumed-only law bytes text other Wrong resumes is = absurd (not-wrong-part law bytes text other resumes is)
resumed-only law bytes text other also resumes is = absurd is

wrong-part-only : HasOnePart → (bytes text other : List ℕ) (also : Status) → IsWrongPart bytes text → AnswersPlain Resume bytes also other → Wrong ≡ also
wrong-part-only law bytes text other Done wrong is = absurd (not-wrong-part law bytes other text is wrong)
wrong-part-only law bytes text other Wrong wrong is = refl
wrong-part-only law bytes text other also wrong is = absurd is

-- Bytes are cut in one way.
abbrev pub HasOneSplit : Type 0
HasOneSplit = (bytes one other two another : List ℕ) → IsSplit bytes one other → IsSplit bytes two another → (one ≡ two) × (other ≡ another)

-- Of two right recordings none is wrong.
not-wrong-of-two : HasOneVerdict → (one other : List ℕ) (first second : State) (line : ℕ) (reason : Reason) → IsRecordingOf one first → IsRecordingOf other second → IsWrongOfTwo one other line reason → ⊥
not-wrong-of-two law one other first second line reason a b (in_first wrong) =
    let same = law one (verdicts.Legal (length first.journal)) (verdicts.Wrong line reason) (record { state = first; recording = a; count = refl }) wrong in
    cc
not-wrong-of-two law one other first second line reason a b (in_second {line = own} right wrong) =
    let same = law other (verdicts.Legal (length second.journal)) (verdicts.Wrong own reason) (record { state = second; recording = b; count = refl }) wrong in
    cc

-- What is compared has no wrong line.
not-wrong-pair : HasOneVerdict → HasOneSplit → (bytes text other : List ℕ) → Compares bytes text → IsWrongPair bytes other → ⊥
not-wrong-pair law cut bytes text other c w =
    let same = cut bytes c.one c.other w.one w.other c.split w.split in
    not-wrong-of-two law w.one w.other c.first c.second w.line w.reason (subst (λ x. IsRecordingOf x c.first) same.0 c.first_is) (subst (λ x. IsRecordingOf x c.second) same.1 c.second_is) w.is

compared-only : HasOneVerdict → HasOneSplit → (bytes text other : List ℕ) (also : Status) → Compares bytes text → AnswersPlain Compare bytes also other → Done ≡ also
compared-only law cut bytes text other Done compares is = refl
compared-only law cut bytes text other Wrong compares is = absurd (not-wrong-pair law cut bytes text other compares is)
compared-only law cut bytes text other also compares is = absurd is

wrong-pair-only : HasOneVerdict → HasOneSplit → (bytes text other : List ℕ) (also : Status) → IsWrongPair bytes text → AnswersPlain Compare bytes also other → Wrong ≡ also
wrong-pair-only law cut bytes text other Done wrong is = absurd (not-wrong-pair law cut bytes other text is wrong)
wrong-pair-only law cut bytes text other Wrong wrong is = refl
wrong-pair-only law cut bytes text other also wrong is = absurd is

-- What can be run in threads has no cause to be refused.
not-run : (run : Threaded) (bytes text other : List ℕ) → Runs run bytes text → Refuses bytes other → ⊥
not-run Play bytes text other ran refused = let one = ran.says in let two = refused.is in cc
not-run Sum bytes text other ran refused = let one = ran.says in let two = refused.is in cc

ran-only : (run : Threaded) (bytes text other : List ℕ) (also : Status) → Runs run bytes text → Answers (commands.OfRun run) bytes also other → Done ≡ also
ran-only run bytes text other Done ran is = refl
ran-only run bytes text other Refused ran is = absurd (not-run run bytes text other ran is)
ran-only run bytes text other also ran is = absurd is

not-run-only : (run : Threaded) (bytes text other : List ℕ) (also : Status) → Refuses bytes text → Answers (commands.OfRun run) bytes also other → Refused ≡ also
not-run-only run bytes text other Done refused is = absurd (not-run run bytes other text is refused)
not-run-only run bytes text other Refused refused is = refl
not-run-only run bytes text other also refused is = absurd is

-- What is explained is right or not, by one rule for each thing that bytes are read as.
right-not-faulty : HasOneImport → (kind : Subject) (bytes text other : List ℕ) → IsRight kind bytes text → IsFaulty kind bytes other → ⊥
right-not-faulty flown subjects.Recording bytes text other right faulty = faulty
right-not-faulty flown subjects.Tracks bytes text other right faulty = flown bytes right.encounter faulty.refusal right.says faulty.is
right-not-faulty flown subjects.Encounter bytes text other right faulty = let one = right.says in let two = faulty.is in cc

right-not-wrong : HasOneVerdict → (kind : Subject) (bytes text other : List ℕ) → IsRight kind bytes text → IsWrongRecording kind bytes other → ⊥
right-not-wrong law subjects.Recording bytes text other right wrong =
    let same = law bytes (verdicts.Legal (length right.state.journal)) (verdicts.Wrong wrong.line wrong.reason) (record { state = right.state; recording = right.recording_is; count = refl }) wrong.is in
    cc
right-not-wrong law subjects.Tracks bytes text other right wrong = wrong
right-not-wrong law subjects.Encounter bytes text other right wrong = wrong

faulty-not-wrong : (kind : Subject) (bytes text other : List ℕ) → IsFaulty kind bytes text → IsWrongRecording kind bytes other → ⊥
faulty-not-wrong subjects.Recording bytes text other faulty wrong = faulty
faulty-not-wrong subjects.Tracks bytes text other faulty wrong = wrong
faulty-not-wrong subjects.Encounter bytes text other faulty wrong = wrong

right-only : HasOneVerdict → HasOneImport → (bytes text other : List ℕ) (also : Status) → IsRight (read_as bytes) bytes text → AnswersPlain Explain bytes also other → Done ≡ also
right-only law flown bytes text other Done right is = refl
right-only law flown bytes text other Refused right is = absurd (right-not-faulty flown (read_as bytes) bytes text other right is)
right-only law flown bytes text other Wrong right is = absurd (right-not-wrong law (read_as bytes) bytes text other right is)
right-only law flown bytes text other also right is = absurd is

faulty-only : HasOneImport → (bytes text other : List ℕ) (also : Status) → IsFaulty (read_as bytes) bytes text → AnswersPlain Explain bytes also other → Refused ≡ also
faulty-only flown bytes text other Done faulty is = absurd (right-not-faulty flown (read_as bytes) bytes other text is faulty)
faulty-only flown bytes text other Refused faulty is = refl
faulty-only flown bytes text other Wrong faulty is = absurd (faulty-not-wrong (read_as bytes) bytes text other faulty is)
faulty-only flown bytes text other also faulty is = absurd is

wrong-explained-only : HasOneVerdict → (bytes text other : List ℕ) (also : Status) → IsWrongRecording (read_as bytes) bytes text → AnswersPlain Explain bytes also other → Wrong ≡ also
wrong-explained-only law bytes text other Done wrong is = absurd (right-not-wrong law (read_as bytes) bytes other text is wrong)
wrong-explained-only law bytes text other Refused wrong is = absurd (faulty-not-wrong (read_as bytes) bytes other text is wrong)
wrong-explained-only law bytes text other Wrong wrong is = refl
wrong-explained-only law bytes text other also wrong is = absurd is

-- ---- `fly`

-- What bytes say.
abbrev said : {X E : Type 0} → X → Result X E → X
said other (Ok x) = x
said other (Err error) = other

-- Bytes say one encounter.
one-encounter : (bytes : List ℕ) (e d : Parts) → Says bytes e → Says bytes d → e ≡ d
one-encounter bytes e d one two = ap (said e) (sym one ∙ two)

-- Where the flight leaves the limits, no encounter follows.
abbrev pub HasNoFlight : Type 0
HasNoFlight = (read : Parts) (named : List ℕ) (own cycle : ℕ) (written : Parts) → Leaves read named own cycle → Follows read named written → ⊥

not-unflown : HasNoFlight → (names : List (List ℕ)) (bytes text other : List ℕ) → Flies names bytes text → IsNotFlown names bytes other → ⊥
not-unflown law names bytes text other flies (inl refused) = let one = flies.says in let two = refused.is in cc
not-unflown law names bytes text other flies (inr (inl unknown)) =
    let same = one-encounter bytes flies.encounter unknown.encounter flies.says unknown.says in
    none-some unknown.name (sym flies.known ∙ ap (λ e. unnamed_in e names) same ∙ unknown.unknown)
not-unflown law names bytes text other flies (inr (inr leaves)) =
    let same = one-encounter bytes leaves.encounter flies.encounter leaves.says flies.says in
    law flies.encounter (named_in flies.encounter names) leaves.own leaves.cycle flies.written (subst (λ (e : Parts). Leaves e (named_in e names) leaves.own leaves.cycle) same leaves.leaves) flies.follows

one-flight : HasNoFlight → (names : List (List ℕ)) (bytes text other : List ℕ) (status also : Status) → AnswersFlight names bytes status text → AnswersFlight names bytes also other → status ≡ also
one-flight law names bytes text other Done Done is other_is = refl
one-flight law names bytes text other Done Refused is other_is = absurd (not-unflown law names bytes text other is other_is)
one-flight law names bytes text other Done also is other_is = absurd other_is
one-flight law names bytes text other Refused Done is other_is = absurd (not-unflown law names bytes other text other_is is)
one-flight law names bytes text other Refused Refused is other_is = refl
one-flight law names bytes text other Refused also is other_is = absurd other_is
one-flight law names bytes text other status also is other_is = absurd is

-- ---- `vary`

-- An air has one serial journal at most.
abbrev pub HasOneSerial : Type 0
HasOneSerial = (air : Air) (one two : List Entry) → IsSerial air one → IsSerial air two → one ≡ two

not-unvaried : HasOneSerial → (variation : Variation) (bytes text other : List ℕ) → Varies variation bytes text → IsNotVaried variation bytes other → ⊥
not-unvaried law variation bytes text other varies (inl refused) = let one = varies.says in let two = refused.is in cc
not-unvaried law variation bytes text other varies (inr (inl nobody)) =
    let same = one-encounter bytes varies.encounter nobody.encounter varies.says nobody.says in
    none-some nobody.address (sym varies.known ∙ ap (λ (e : Parts). unknown_in variation e.crafts) same ∙ nobody.unknown)
not-unvaried law variation bytes text other varies (inr (inr more)) =
    let same = one-encounter bytes varies.encounter more.encounter varies.says more.says in
    let journal = law (air_of more.encounter) varies.journal more.journal (subst (λ (e : Parts). IsSerial (air_of e) varies.journal) same varies.serial) more.serial in
    let count : length (changes_of variation varies.encounter varies.journal) ≡ length (changes_of variation more.encounter more.journal) = ap₂ (λ e j. length (changes_of variation e j)) same journal in
    omega (arith, count, more.many.many, varies.told.few)

one-variation : HasOneSerial → (variation : Variation) (bytes text other : List ℕ) (status also : Status) → AnswersPlain (Vary variation) bytes status text → AnswersPlain (Vary variation) bytes also other → status ≡ also
one-variation law variation bytes text other Done Done is other_is = refl
one-variation law variation bytes text other Done Refused is other_is = absurd (not-unvaried law variation bytes text other is other_is)
one-variation law variation bytes text other Done also is other_is = absurd other_is
one-variation law variation bytes text other Refused Done is other_is = absurd (not-unvaried law variation bytes other text other_is is)
one-variation law variation bytes text other Refused Refused is other_is = refl
one-variation law variation bytes text other Refused also is other_is = absurd other_is
one-variation law variation bytes text other status also is other_is = absurd is

-- ---- `orders` and `losses`

-- Where something is listed, no two aircraft have more states than the search keeps.
not-unlisted : (scope : Scope) (bytes text other : List ℕ) → Lists scope bytes text → IsNotListed scope bytes other → ⊥
not-unlisted scope bytes text other lists (inl refused) = let one = lists.says in let two = refused.is in cc
not-unlisted scope bytes text other lists (inr more) =
    let same = one-encounter bytes more.encounter lists.encounter more.says lists.says in
    let past = subst (λ (e : Parts). IsPastBound scope e more.stop) same more.past in
    (lists.listed.found.equal more.stop.low more.stop.high past.two).within more.stop.cycle past.begun past.cycle past.many

one-listing : (scope : Scope) (bytes text other : List ℕ) (status also : Status) → AnswersPlain (Possible scope) bytes status text → AnswersPlain (Possible scope) bytes also other → status ≡ also
one-listing scope bytes text other Done Done is other_is = refl
one-listing scope bytes text other Done Refused is other_is = absurd (not-unlisted scope bytes text other is other_is)
one-listing scope bytes text other Done also is other_is = absurd other_is
one-listing scope bytes text other Refused Done is other_is = absurd (not-unlisted scope bytes other text other_is is)
one-listing scope bytes text other Refused Refused is other_is = refl
one-listing scope bytes text other Refused also is other_is = absurd other_is
one-listing scope bytes text other status also is other_is = absurd is

-- ---- `instance`

-- Where something is shown, each address is known, and no two aircraft have more states than the search keeps.
not-unshown : (scope : Scope) (want : Wanted) (bytes text other : List ℕ) → Shows scope want bytes text → IsNotShown scope want bytes other → ⊥
not-unshown scope want bytes text other shows (inl (inl refused)) = let one = shows.says in let two = refused.is in cc
not-unshown scope want bytes text other shows (inl (inr more)) =
    let same = one-encounter bytes more.encounter shows.encounter more.says shows.says in
    let past = subst (λ (e : Parts). IsPastBound scope e more.stop) same more.past in
    (shows.within.equal more.stop.low more.stop.high past.two).within more.stop.cycle past.begun past.cycle past.many
not-unshown scope want bytes text other shows (inr nobody) =
    let same = one-encounter bytes nobody.encounter shows.encounter nobody.says shows.says in
    let one = shows.known in
    let two = subst (λ (e : Parts). sought_in e want ≡ Err nobody.address) same nobody.unknown in
    cc

one-instance : (scope : Scope) (want : Wanted) (bytes text other : List ℕ) (status also : Status) → AnswersPlain (Instance scope want) bytes status text → AnswersPlain (Instance scope want) bytes also other → status ≡ also
one-instance scope want bytes text other Done Done is other_is = refl
one-instance scope want bytes text other Done Refused is other_is = absurd (not-unshown scope want bytes text other is other_is)
one-instance scope want bytes text other Done also is other_is = absurd other_is
one-instance scope want bytes text other Refused Done is other_is = absurd (not-unshown scope want bytes other text other_is is)
one-instance scope want bytes text other Refused Refused is other_is = refl
one-instance scope want bytes text other Refused also is other_is = absurd other_is
one-instance scope want bytes text other status also is other_is = absurd is

-- ---- `many`

-- Bytes are cut into one list of pieces at most.
abbrev pub HasOneCut : Type 0
HasOneCut = (bytes : List ℕ) (one other : List (List ℕ)) → AreCut one bytes → AreCut other bytes → one ≡ other

not-more : HasOneCut → (bytes text other : List ℕ) → TellsMany bytes text → HasManyMore bytes other → ⊥
not-more law bytes text other tells more =
    let same = ap length (law bytes tells.pieces more.pieces tells.cut more.cut) in
    omega (arith, same, tells.few, more.more)

many-only : HasOneCut → (bytes text other : List ℕ) (also : Status) → TellsMany bytes text → AnswersPlain Many bytes also other → Done ≡ also
many-only law bytes text other Done tells is = refl
many-only law bytes text other Refused tells is = absurd (not-more law bytes text other tells is)
many-only law bytes text other also tells is = absurd is

more-only : HasOneCut → (bytes text other : List ℕ) (also : Status) → HasManyMore bytes text → AnswersPlain Many bytes also other → Refused ≡ also
more-only law bytes text other Done more is = absurd (not-more law bytes other text is more)
more-only law bytes text other Refused more is = refl
more-only law bytes text other also more is = absurd is

-- ---- all commands

-- What the laws of other crates say.
pub record HaveLaws : Type 0 where
  pub verdict : HasOneVerdict
  pub part : HasOnePart
  pub cut : HasOneSplit
  pub pieces : HasOneCut
  pub flown : HasOneImport
  pub flight : HasNoFlight
  pub serial : HasOneSerial

one-plain : HaveLaws → (plain : Plain) (bytes text other : List ℕ) (status also : Status) → AnswersPlain plain bytes status text → AnswersPlain plain bytes also other → status ≡ also
one-plain laws Serial bytes text other Done also is other_is = done-only bytes text other also is other_is
one-plain laws Serial bytes text other Refused also is other_is = refused-only bytes text other also is other_is
one-plain laws Serial bytes text other status also is other_is = absurd is
one-plain laws Tracks bytes text other Done also is other_is = imported-only laws.flown bytes text other also is other_is
one-plain laws Tracks bytes text other Refused also is other_is = not-imported-only laws.flown bytes text other also is other_is
one-plain laws Tracks bytes text other status also is other_is = absurd is
one-plain laws Audit bytes text other Done also is other_is = legal-only laws.verdict bytes text other also is other_is
one-plain laws Audit bytes text other Wrong also is other_is = wrong-only laws.verdict bytes text other also is other_is
one-plain laws Audit bytes text other status also is other_is = absurd is
one-plain laws (Gen number crafts cycles profile) bytes text other Done Done is other_is = refl
one-plain laws (Gen number crafts cycles profile) bytes text other Done also is other_is = absurd other_is
one-plain laws (Gen number crafts cycles profile) bytes text other status also is other_is = absurd is
one-plain laws (Tell tool) bytes text other Done also is other_is = told-only laws.verdict tool bytes text other also is other_is
one-plain laws (Tell tool) bytes text other Wrong also is other_is = untold-only laws.verdict tool bytes text other also is other_is
one-plain laws (Tell tool) bytes text other status also is other_is = absurd is
one-plain laws (Sweep number count crafts cycles profile) bytes text other Done Done is other_is = refl
one-plain laws (Sweep number count crafts cycles profile) bytes text other Done also is other_is = absurd other_is
one-plain laws (Sweep number count crafts cycles profile) bytes text other status also is other_is = absurd is
one-plain laws (Vary variation) bytes text other status also is other_is = one-variation laws.serial variation bytes text other status also is other_is
one-plain laws (Possible scope) bytes text other status also is other_is = one-listing scope bytes text other status also is other_is
one-plain laws (Instance scope want) bytes text other status also is other_is = one-instance scope want bytes text other status also is other_is
one-plain laws Many bytes text other Done also is other_is = many-only laws.pieces bytes text other also is other_is
one-plain laws Many bytes text other Refused also is other_is = more-only laws.pieces bytes text other also is other_is
one-plain laws Many bytes text other status also is other_is = absurd is
one-plain laws Resume bytes text other Done also is other_is = resumed-only laws.part bytes text other also is other_is
one-plain laws Resume bytes text other Wrong also is other_is = wrong-part-only laws.part bytes text other also is other_is
one-plain laws Resume bytes text other status also is other_is = absurd is
one-plain laws Compare bytes text other Done also is other_is = compared-only laws.verdict laws.cut bytes text other also is other_is
one-plain laws Compare bytes text other Wrong also is other_is = wrong-pair-only laws.verdict laws.cut bytes text other also is other_is
one-plain laws Compare bytes text other status also is other_is = absurd is
one-plain laws Explain bytes text other Done also is other_is = right-only laws.verdict laws.flown bytes text other also is other_is
one-plain laws Explain bytes text other Refused also is other_is = faulty-only laws.flown bytes text other also is other_is
one-plain laws Explain bytes text other Wrong also is other_is = wrong-explained-only laws.verdict bytes text other also is other_is
one-plain laws Explain bytes text other status also is other_is = absurd is
one-plain laws (Decode word) bytes text other Done Done is other_is = refl
one-plain laws (Decode word) bytes text other Done also is other_is = absurd other_is
one-plain laws (Decode word) bytes text other status also is other_is = absurd is
one-plain laws (Show page) bytes text other Done Done is other_is = refl
one-plain laws (Show page) bytes text other Done also is other_is = absurd other_is
one-plain laws (Show page) bytes text other status also is other_is = absurd is

pub one-status : HaveLaws → (command : Command) (bytes text other : List ℕ) (status also : Status) → Answers command bytes status text → Answers command bytes also other → status ≡ also
one-status laws (commands.OfPlain plain) bytes text other status also is other_is = one-plain laws plain bytes text other status also is other_is
one-status laws (commands.OfFlight names) bytes text other status also is other_is = one-flight laws.flight names bytes text other status also is other_is
one-status laws (commands.OfPicture labels) bytes text other Done also is other_is = drawn-only laws.verdict labels bytes text other also is other_is
one-status laws (commands.OfPicture labels) bytes text other Wrong also is other_is = undrawn-only laws.verdict labels bytes text other also is other_is
one-status laws (commands.OfPicture labels) bytes text other status also is other_is = absurd is
one-status laws (commands.OfRun run) bytes text other Done also is other_is = ran-only run bytes text other also is other_is
one-status laws (commands.OfRun run) bytes text other Refused also is other_is = not-run-only run bytes text other also is other_is
one-status laws (commands.OfRun run) bytes text other status also is other_is = absurd is
