-- The commands: which words say them, and how much they read.
use Rattle.std.specs.Prelude.{◌≡◌, ℕ, ◌<◌, ◌≤◌, ◌^◌, ◌⊎◌, if◌then◌else◌, true, List, [], ◌∷◌, Option, None, Some, codes, length}
use Rattle.std.specs.Fmt.{decimal}
use Rattle.acas_base.specs.Ranges.{IsCycle}
use Rattle.acas_base.specs.declared.TheConstants.{CRAFTS}
use Rattle.acas_base.specs.declared.setting.Profile.{Profile}
use Rattle.acas_base.specs.declared.setting.Profile.TheVariants.{One, Two}
use Rattle.acas_text.specs.Hex.{hex}
use Rattle.address_words.specs.Addresses.{are_addresses}
use Rattle.fault_text.specs.Lines.{begins_recording}
use Rattle.possibilities.specs.Listing.{scope_word}
use Rattle.labels.specs.Labels.{LabelWords, labels_in}
use Rattle.report_words.specs.Wanting.{IsInRange as IsWanted, words_of as wanted_words}
use Rattle.variation_words.specs.Words.{IsInRange as IsVariation, words_of}
use Rattle.acas_top.specs.declared.words.TheConstants.{ENCOUNTER_BYTES, RECORDING_BYTES}
use Rattle.acas_top.specs.Commands.{Command}
use Rattle.acas_top.specs.Commands as commands
use Rattle.acas_top.specs.declared.words.Limit.{Limit}
use Rattle.acas_top.specs.declared.words.Limit.TheVariants as limits
use Rattle.acas_top.specs.declared.words.Page.{Page}
use Rattle.acas_top.specs.declared.words.Page.TheVariants.{Help, Version}
use Rattle.acas_top.specs.declared.words.Plain.{Plain}
use Rattle.acas_top.specs.declared.words.Plain.TheVariants.{Audit, Compare, Decode, Explain, Gen, Instance, Many, Possible, Resume, Serial, Show, Sweep, Tell, Tracks, Vary}
use Rattle.acas_top.specs.declared.words.Threaded.{Threaded}
use Rattle.acas_top.specs.declared.words.Threaded.TheVariants.{Play, Sum}
use Rattle.acas_top.specs.declared.words.Tool.{Tool}
use Rattle.acas_top.specs.declared.words.Tool.TheVariants.{Messages, Picture, Places, Reports, Response, Summary, Watch, Why}

-- The numbers of a plain command are in their ranges.
abbrev pub IsInRange : Plain → Type 0
IsInRange Serial = Unit {0}
IsInRange Audit = Unit {0}
IsInRange (Gen number crafts cycles profile) = (number < 2 ^ 32) × (1 ≤ crafts) × (crafts ≤ CRAFTS) × IsCycle cycles
IsInRange (Tell tool) = Unit {0}
IsInRange (Sweep number count crafts cycles profile) = (number < 2 ^ 32) × (1 ≤ count) × (count ≤ 4096) × (1 ≤ crafts) × (crafts ≤ 4) × (1 ≤ cycles) × (cycles ≤ 120)
IsInRange Resume = Unit {0}
IsInRange Tracks = Unit {0}
IsInRange (Vary variation) = IsVariation variation
IsInRange (Possible scope) = Unit {0}
IsInRange (Instance scope want) = IsWanted want
IsInRange Compare = Unit {0}
IsInRange Many = Unit {0}
IsInRange (Decode word) = word < 2 ^ 56
IsInRange Explain = Unit {0}
IsInRange (Show page) = Unit {0}

-- The numbers of a command are in their ranges.
abbrev pub IsCommand : Command → Type 0
IsCommand (commands.OfPlain plain) = IsInRange plain
IsCommand (commands.OfFlight names) = Unit {0}
IsCommand (commands.OfPicture labels) = Unit {0}
IsCommand (commands.OfRun run) = Unit {0}

-- The word of a tool.
abbrev pub tool_word : Tool → List ℕ
tool_word Messages = codes "messages"
tool_word Places = codes "places"
tool_word Reports = codes "reports"
tool_word Response = codes "response"
tool_word Picture = codes "picture"
tool_word Summary = codes "summary"
tool_word Watch = codes "watch"
tool_word Why = codes "why"

-- The word of a run in threads.
abbrev pub threaded_word : Threaded → List ℕ
threaded_word Play = codes "play"
threaded_word Sum = codes "sum"

-- The words behind the numbers that say for which profile encounters are made.
abbrev pub profile_words : Profile → List (List ℕ)
profile_words One = []
profile_words Two = codes "2" ∷ []

-- The words ask for a page.
abbrev pub SayPage : List (List ℕ) → Page → Type 0
SayPage words Help = (words ≡ codes "--help" ∷ []) ⊎ ((words ≡ codes "-h" ∷ []) ⊎ (words ≡ codes "help" ∷ []))
SayPage words Version = words ≡ codes "--version" ∷ []

-- The words say `fly` and these addresses: one to sixteen, and none twice.
pub record SayFlight (words names : List (List ℕ)) : Type 0 where
  pub is : words ≡ codes "fly" ∷ names
  pub addresses : are_addresses names ≡ true

-- The words say `picture` and these labels, by one word at least.
pub record SayPicture (words : List (List ℕ)) (labels : LabelWords) : Type 0 where
  pub rest : List (List ℕ)
  pub is : words ≡ codes "picture" ∷ rest
  pub some : 1 ≤ length rest
  pub said : labels_in rest ≡ Some labels

-- The words say a plain command.
abbrev pub SayPlain : List (List ℕ) → Plain → Type 0
SayPlain words Serial = words ≡ codes "serial" ∷ []
SayPlain words Audit = words ≡ codes "audit" ∷ []
SayPlain words (Gen number crafts cycles profile) = words ≡ codes "gen" ∷ decimal number ∷ decimal crafts ∷ decimal cycles ∷ profile_words profile
SayPlain words (Tell tool) = words ≡ tool_word tool ∷ []
SayPlain words (Sweep number count crafts cycles profile) = words ≡ codes "sweep" ∷ decimal number ∷ decimal count ∷ decimal crafts ∷ decimal cycles ∷ profile_words profile
SayPlain words Resume = words ≡ codes "resume" ∷ []
SayPlain words Tracks = words ≡ codes "tracks" ∷ []
SayPlain words (Vary variation) = words ≡ codes "vary" ∷ words_of variation
SayPlain words (Possible scope) = words ≡ scope_word scope ∷ []
SayPlain words (Instance scope want) = words ≡ codes "instance" ∷ scope_word scope ∷ wanted_words want
SayPlain words Compare = words ≡ codes "compare" ∷ []
SayPlain words Many = words ≡ codes "many" ∷ []
SayPlain words (Decode word) = words ≡ codes "decode" ∷ hex 14 word ∷ []
SayPlain words Explain = words ≡ codes "explain" ∷ []
SayPlain words (Show page) = SayPage words page

-- The words say a command.
abbrev pub Say : List (List ℕ) → Command → Type 0
Say words (commands.OfPlain plain) = SayPlain words plain
Say words (commands.OfFlight names) = SayFlight words names
Say words (commands.OfPicture labels) = SayPicture words labels
Say words (commands.OfRun run) = words ≡ threaded_word run ∷ []

-- The words say no command.
abbrev pub AreNoCommand : List (List ℕ) → Type 0
AreNoCommand words = (command : Command) → IsCommand command → Say words command → ⊥

-- The words say no plain command.
abbrev pub AreNoPlain : List (List ℕ) → Type 0
AreNoPlain words = (plain : Plain) → IsInRange plain → SayPlain words plain → ⊥

-- The words don't say `fly` and addresses.
abbrev pub AreNoFlight : List (List ℕ) → Type 0
AreNoFlight words = (names : List (List ℕ)) → SayFlight words names → ⊥

-- The words don't say `picture` and labels.
abbrev pub AreNoPicture : List (List ℕ) → Type 0
AreNoPicture words = (labels : LabelWords) → SayPicture words labels → ⊥

-- The words say neither of the commands that end with a list of words.
abbrev pub AreNoList : List (List ℕ) → Type 0
AreNoList words = AreNoFlight words × AreNoPicture words

-- The words say no command that waits for nobody.
abbrev pub AreNoQuiet : List (List ℕ) → Type 0
AreNoQuiet words = AreNoPlain words × AreNoList words

-- The words say no run in threads.
abbrev pub AreNoRun : List (List ℕ) → Type 0
AreNoRun words = (run : Threaded) → Say words (commands.OfRun run) → ⊥

-- The most bytes that a limit admits, whatever they are, and the most that these bytes may be.
abbrev pub greatest : Limit → ℕ
greatest limits.Encounter = ENCOUNTER_BYTES
greatest other = RECORDING_BYTES

abbrev pub most : Limit → List ℕ → ℕ
most limits.Encounter bytes = ENCOUNTER_BYTES
most limits.Recording bytes = RECORDING_BYTES
most limits.Either bytes = if begins_recording bytes then RECORDING_BYTES else ENCOUNTER_BYTES

-- How much a plain command reads at most, or none where it reads nothing.
abbrev pub plain_limit : Plain → Option Limit
plain_limit Serial = Some limits.Encounter
plain_limit Tracks = Some limits.Encounter
plain_limit (Vary variation) = Some limits.Encounter
plain_limit (Possible scope) = Some limits.Encounter
plain_limit (Instance scope want) = Some limits.Encounter
plain_limit Audit = Some limits.Recording
plain_limit (Gen number crafts cycles profile) = None
plain_limit (Tell tool) = Some limits.Recording
plain_limit (Sweep number count crafts cycles profile) = None
plain_limit Resume = Some limits.Recording
plain_limit Compare = Some limits.Recording
plain_limit Many = Some limits.Recording
plain_limit Explain = Some limits.Either
plain_limit (Decode word) = None
plain_limit (Show page) = None

-- How much a command reads at most, or none where it reads nothing.
abbrev pub limit_of : Command → Option Limit
limit_of (commands.OfPlain plain) = plain_limit plain
limit_of (commands.OfFlight names) = Some limits.Encounter
limit_of (commands.OfPicture labels) = Some limits.Recording
limit_of (commands.OfRun run) = Some limits.Encounter
