-- What stands before the entries of a recording: the first line, the encounter, and the number of entries.
use Rattle.std.specs.Prelude.{◌≡◌, ◌≢◌, ℕ, ◌+◌, ◌≤◌, List, [], ◌∷◌, ◌++◌, length, Err}
use Rattle.std.specs.List.{AllByRecursion}
use Rattle.acas_base.specs.Encounter.{IsEncounter, Parts}
use Rattle.acas_lines.specs.Lines.{joined}
use Rattle.enc_file.specs.Canonical.{canonical_lines}
use Rattle.enc_file.specs.Reading.{Says, reading_of}
use Rattle.enc_file.specs.Spelling.{end_record, line_of}
use Rattle.enc_file.specs.declared.refusal.Refusal.{Refusal}
use Rattle.flight.specs.Inside.{IsInside}
use Rattle.rec_audit.specs.declared.opening.TheConstants.{MOST_TOLD}
use Rattle.rec_audit.specs.declared.verdict.Reason.{Reason}
use Rattle.rec_audit.specs.declared.verdict.Reason.TheVariants.{Encounter, Spelling}
use Rattle.rec_text.specs.Recording.{head_line, journal_line}

-- The lines are those of an encounter inside the box, the number of entries, and then the rest.
pub record Opens (e : Parts) (count : ℕ) (lines rest : List (List ℕ)) : Type 0 where
  pub encounter : IsEncounter e
  pub inside : IsInside e
  pub told : count ≤ MOST_TOLD
  pub begins : lines ≡ head_line ∷ (canonical_lines e ++ journal_line count ∷ rest)

-- The number of the line after it, from 1.
abbrev pub first_entry : Parts → ℕ
first_entry e = length (canonical_lines e) + 3

-- ---- what can be wrong, step by step; a step is taken only where the steps before it went well

abbrev pub end_line : List ℕ
end_line = line_of end_record

-- The lines don't begin with the number of entries.
abbrev pub NoCount : List (List ℕ) → Type 0
NoCount lines = (count : ℕ) (rest : List (List ℕ)) → count ≤ MOST_TOLD → lines ≢ journal_line count ∷ rest

-- What is wrong with the lines of an encounter, or with the line after them.
pub data IsWrongPart (part rest : List (List ℕ)) : ℕ → Reason → Type 0 where
  refused : (refusal : Refusal) → reading_of (joined part) ≡ Err refusal → IsWrongPart part rest 2 (Encounter refusal.code)
  not_canonical : (e : Parts) → Says (joined part) e → part ≢ canonical_lines e → IsWrongPart part rest 2 Spelling
  no_count : (e : Parts) → Says (joined part) e → part ≡ canonical_lines e → NoCount rest → IsWrongPart part rest (length part + 2) Spelling

-- No line is an end.
abbrev pub HasNoEnd : List (List ℕ) → Type 0
HasNoEnd lines = AllByRecursion (λ line. line ≢ end_line) lines

-- The lines up to the first end, and the lines after it.
pub record IsCut (lines part rest : List (List ℕ)) : Type 0 where
  pub front : List (List ℕ)
  pub none : HasNoEnd front
  pub part_is : part ≡ front ++ end_line ∷ []
  pub all : lines ≡ part ++ rest

-- What is wrong with the lines after the first one.
pub data IsWrongAfterHead (lines : List (List ℕ)) : ℕ → Reason → Type 0 where
  no_end : HasNoEnd lines → IsWrongAfterHead lines (length lines + 2) Spelling
  wrong_part : {part rest : List (List ℕ)} {line : ℕ} {reason : Reason} → IsCut lines part rest → IsWrongPart part rest line reason → IsWrongAfterHead lines line reason

-- What is wrong before the entries: the line, from 1, and why.
pub data IsWrongOpening (lines : List (List ℕ)) : ℕ → Reason → Type 0 where
  no_head : ((rest : List (List ℕ)) → lines ≢ head_line ∷ rest) → IsWrongOpening lines 1 Spelling
  wrong_after_head : {rest : List (List ℕ)} {line : ℕ} {reason : Reason} → lines ≡ head_line ∷ rest → IsWrongAfterHead rest line reason → IsWrongOpening lines line reason
