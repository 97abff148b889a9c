-- What it means to read an entry, or its key.
use Rattle.std.specs.Prelude.{◌≡◌, ◌≢◌, ◌++◌, ℕ, List, ◌∷◌, Option, MatchOption}
use Rattle.acas_base.specs.declared.entry.Entry.{Entry}
use Rattle.air_journal.specs.Ranges.{IsEntry}
use Rattle.rec_audit.specs.Keys.{IsKey, key, key_fields}
use Rattle.rec_audit.specs.declared.keys.Key.{Key}
use Rattle.rec_text.specs.Entries.{entry_fields, entry_line}

-- The entry with these fields; without a result no entry has them.
abbrev pub ReadsFields : ℕ → List (List ℕ) → Option Entry → Type 0
ReadsFields count fields result =
    MatchOption result ((entry : Entry) → IsEntry count entry → entry_fields count entry ≢ fields) (λ entry. IsEntry count entry × (fields ≡ entry_fields count entry))

-- The entry with this line; without a result no entry has it.
abbrev pub ReadsLine : ℕ → List ℕ → Option Entry → Type 0
ReadsLine count line result =
    MatchOption result ((entry : Entry) → IsEntry count entry → entry_line count entry ≢ line) (λ entry. IsEntry count entry × (line ≡ entry_line count entry))

-- The key that these fields begin with, and the fields behind it; without a result they begin with no key.
abbrev pub ReadsKeyFields : ℕ → List (List ℕ) → List (List ℕ) → Option Key → Type 0
ReadsKeyFields count fields rest result =
    MatchOption result ((about : Key) (after : List (List ℕ)) → IsKey count about → fields ≢ key_fields about ++ after) (λ about. IsKey count about × (fields ≡ key_fields about ++ rest))

-- The key of each entry whose line this text begins with; without a result it begins with the line of no entry.
abbrev pub ReadsKey : ℕ → List ℕ → Option Key → Type 0
ReadsKey count text result =
    MatchOption result ((entry : Entry) (rest : List ℕ) → IsEntry count entry → text ≢ entry_line count entry ++ rest)
    (λ about. IsKey count about × ((entry : Entry) (rest : List ℕ) → IsEntry count entry → text ≡ entry_line count entry ++ rest → key entry ≡ about))

-- The entry with the first of these lines; without a result no entry has that line.
abbrev pub ReadsFirst : ℕ → List (List ℕ) → Option Entry → Type 0
ReadsFirst count lines result = (line : List ℕ) (rest : List (List ℕ)) → lines ≡ line ∷ rest → ReadsLine count line result
