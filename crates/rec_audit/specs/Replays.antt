-- How far lines are those of a legal journal, and what is wrong with the line after them.
use Rattle.std.specs.Prelude.{◌≡◌, ◌≢◌, ℕ, List, ◌∷◌, ◌++◌, length}
use Rattle.acas_base.specs.declared.entry.Entry.{Entry}
use Rattle.air_journal.specs.Ranges.{IsEntry}
use Rattle.air_rules.specs.Air.{Air}
use Rattle.air_rules.specs.Rules.{IsAllowed, IsLegal}
use Rattle.rec_audit.specs.Keys.{key}
use Rattle.rec_audit.specs.declared.verdict.Reason.{Reason}
use Rattle.rec_audit.specs.declared.verdict.Reason.TheVariants.{Spelling, NotAllowed, OtherContent}
use Rattle.rec_text.specs.Entries.{entry_line, entry_lines}

-- The lines are those of a legal journal, and then the rest.
pub record Replays (air : Air) (lines : List (List ℕ)) (journal : List Entry) (rest : List (List ℕ)) : Type 0 where
  pub legal : IsLegal air journal
  pub begins : lines ≡ entry_lines air.count journal ++ rest

-- What is wrong with a line after a journal. Either no entry has the line; or nothing about the same thing is allowed;
-- or another entry about the same thing is allowed.
pub data IsWrongLine (air : Air) (journal : List Entry) (line : List ℕ) : Reason → Type 0 where
  misspelled : ((entry : Entry) → IsEntry air.count entry → entry_line air.count entry ≢ line) → IsWrongLine air journal line Spelling
  forbidden : (entry : Entry) → IsEntry air.count entry → line ≡ entry_line air.count entry →
      ((other : Entry) → key other ≡ key entry → IsAllowed air journal other → ⊥) → IsWrongLine air journal line NotAllowed
  changed : (entry other : Entry) → IsEntry air.count entry → line ≡ entry_line air.count entry →
      key other ≡ key entry → IsAllowed air journal other → other ≢ entry → IsWrongLine air journal line OtherContent

-- The first wrong line has `entries` entries before it.
pub record StopsAt (air : Air) (lines : List (List ℕ)) (entries : ℕ) (reason : Reason) : Type 0 where
  pub journal : List Entry
  pub line : List ℕ
  pub rest : List (List ℕ)
  pub replays : Replays air lines journal (line ∷ rest)
  pub after : length journal ≡ entries
  pub wrong : IsWrongLine air journal line reason
