-- The entries of lines, added to a journal one after the other.
use Rattle.std.specs.Prelude.{◌≡◌, ◌⊎◌, ℕ, ◌+◌, ◌<◌, ◌≤◌, List, [], ◌∷◌, length}
use Rattle.acas_base.specs.Encounter.{IsEncounter, Parts}
use Rattle.acas_base.specs.declared.entry.Entry.{Entry}
use Rattle.acas_lines.specs.Lines.{joined}
use Rattle.air_journal.specs.Airs.{air_of}
use Rattle.air_rules.specs.Air.{Air}
use Rattle.air_rules.specs.Rules.{IsAllowed, IsComplete}
use Rattle.enc_file.specs.Canonical.{canonical_lines}
use Rattle.enc_file.specs.Reading.{Says}
use Rattle.flight.specs.Inside.{IsInside}
use Rattle.rec_audit.specs.Cursors.{Cursor, Took}
use Rattle.acas_lines.specs.Differing.{DifferAt}
use Rattle.rec_audit.specs.Judging.{IsLoaded, IsPartLoaded, IsWrongAfter, IsWrongBeginning}
use Rattle.rec_audit.specs.Opening.{IsCut, Opens, first_entry}
use Rattle.rec_audit.specs.Replays.{IsWrongLine, Replays, StopsAt}
use Rattle.rec_audit.specs.declared.endings.Extent.{Extent}
use Rattle.rec_audit.specs.declared.endings.Extent.TheVariants.{Whole, Beginning}
use Rattle.rec_audit.specs.declared.verdict.Loaded.{Loaded}
use Rattle.rec_audit.specs.declared.verdict.Loaded.TheVariants as loaded
use Rattle.rec_audit.specs.declared.verdict.Reason.{Reason}
use Rattle.rec_audit.specs.declared.fault.Fault.{Fault}
use Rattle.rec_text.specs.Entries.{entry_line}
use Rattle.rec_text.specs.Recording.{closing_lines}

-- The next line was taken, and its entry was added.
pub record AddedNext (air : Air) (old new : List Entry) (before after : Cursor) : Type 0 where
  pub entry : Entry
  pub took : Took before after (entry_line air.count entry ∷ [])
  pub allowed : IsAllowed air old entry
  pub new_is : new ≡ entry ∷ old

-- What is wrong with the next line, where there is one.
abbrev pub IsWrongNext : Air → List Entry → List (List ℕ) → Reason → Type 0
IsWrongNext air journal lines reason = (line : List ℕ) (rest : List (List ℕ)) → lines ≡ line ∷ rest → IsWrongLine air journal line reason

-- At most `most` lines were taken, and the journal has their entries. It stopped at that number, or no line is left.
pub record Replayed (air : Air) (before after : Cursor) (most : ℕ) (journal : List Entry) : Type 0 where
  pub replays : Replays air before.left journal after.left
  pub taken_is : after.taken ≡ before.taken + length journal
  pub within : length journal ≤ most
  pub ends : (length journal ≡ most) ⊎ (after.left ≡ [])

-- One of these lines is wrong.
pub record StoppedAt (air : Air) (before : Cursor) (most : ℕ) (fault : Fault) : Type 0 where
  pub entries : ℕ
  pub stops : StopsAt air before.left entries fault.reason
  pub within : entries < most
  pub line_is : fault.line ≡ before.taken + 1 + entries

-- The lines are those of a complete journal of `count` entries, and then those that follow them in its recording.
pub record ReplayedAll (e : Parts) (lines : List (List ℕ)) (count : ℕ) (journal : List Entry) : Type 0 where
  pub replays : Replays (air_of e) lines journal (closing_lines e journal)
  pub count_is : length journal ≡ count
  pub complete : IsComplete (air_of e) journal

-- The lines are those of a legal journal of at most `count` entries.
pub record ReplayedFirst (e : Parts) (lines : List (List ℕ)) (count : ℕ) (journal : List Entry) : Type 0 where
  pub replays : Replays (air_of e) lines journal []
  pub within : length journal ≤ count

-- What the entry lines of a whole recording give, and those of a beginning.
abbrev pub ReplayedTo : Extent → Parts → List (List ℕ) → ℕ → List Entry → Type 0
ReplayedTo Whole e lines count journal = ReplayedAll e lines count journal
ReplayedTo Beginning e lines count journal = ReplayedFirst e lines count journal

abbrev pub IsWrongIn : Extent → Parts → ℕ → List (List ℕ) → ℕ → Reason → Type 0
IsWrongIn Whole e count lines line reason = IsWrongAfter e count lines line reason
IsWrongIn Beginning e count lines line reason = IsWrongBeginning e count lines line reason

-- The lines that come differ from these lines. The first difference is at the line of this number.
pub record DiffersFrom (before : Cursor) (line : ℕ) (lines : List (List ℕ)) : Type 0 where
  pub same : ℕ
  pub differ : DifferAt same before.left lines
  pub line_is : line ≡ before.taken + 1 + same

-- The lines up to the first end were taken.
pub record SkippedPart (before after : Cursor) : Type 0 where
  pub part : List (List ℕ)
  pub cut : IsCut before.left part after.left
  pub took : Took before after part

-- The canonical lines of an encounter were taken, up to the first end.
pub record ReadPart (before : Cursor) (e : Parts) (after : Cursor) : Type 0 where
  pub valid : IsEncounter e
  pub inside : IsInside e
  pub says : Says (joined (canonical_lines e)) e
  pub cut : IsCut before.left (canonical_lines e) after.left
  pub took : Took before after (canonical_lines e)

-- An encounter and the number of entries were read.
pub record IsOpened (lines : List (List ℕ)) (e : Parts) (count : ℕ) (after : Cursor) : Type 0 where
  pub opens : Opens e count lines after.left
  pub first : after.taken + 1 ≡ first_entry e

-- What the entries and the end of a recording give.
abbrev pub IsReplayed : Extent → Parts → ℕ → List (List ℕ) → Loaded → Type 0
IsReplayed extent e count lines (loaded.Legal state) = (state.encounter ≡ e) × ReplayedTo extent e lines count state.journal
IsReplayed extent e count lines (loaded.Wrong line reason) = IsWrongIn extent e count lines line reason

-- What loading gives, of a whole recording and of a beginning.
abbrev pub IsLoadedAs : Extent → List ℕ → Loaded → Type 0
IsLoadedAs Whole bytes found = IsLoaded bytes found
IsLoadedAs Beginning bytes found = IsPartLoaded bytes found
