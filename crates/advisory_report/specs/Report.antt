-- The lines of the report (this project's profile).
use Rattle.std.specs.Prelude.{ℕ, Bool, true, false, not, ◌&&◌, ◌||◌, ◌==◌, if◌then◌else◌, pos, List, [], ◌∷◌, ◌++◌, codes, Option, Some, None}
use Rattle.std.specs.Cmp.Lexicographic.{pointwise}
use Rattle.std.specs.Fmt.{signed_decimal}
use Rattle.std.specs.List.{join_with_byte}
use Rattle.acas_text.specs.Hex.{hex}
use Rattle.advisory_report.specs.Composite.{word_of}
use Rattle.advisory_report.specs.Phrases.{aural_of, phrase_text}
use Rattle.advisory_report.specs.declared.composite.Composite.{Composite}
use Rattle.advisory_report.specs.declared.aural.Aural.{Aural}
use Rattle.advisory_report.specs.declared.aural.Aural.TheVariants as aurals

abbrev pub is_same_word : Composite → Composite → Bool
is_same_word before after = pointwise ◌==◌ (word_of before) (word_of after)

abbrev pub is_silent : Aural → Bool
is_silent aurals.Silent = true
is_silent _ = false

-- The cycle, the aircraft's address, the word and the phrase.
abbrev pub line_text : ℕ → ℕ → Composite → Composite → List ℕ
line_text cycle address before after =
    join_with_byte 44 (codes "r" ∷ signed_decimal (pos cycle) ∷ hex 6 address ∷ word_of after ∷ phrase_text (aural_of before after) ∷ []) ++ 10 ∷ []

-- The word stays, and nothing is said.
abbrev pub is_quiet : Composite → Composite → Bool
is_quiet before after = is_same_word before after && is_silent (aural_of before after)

-- A commit has a line where its word differs from the word before, or a phrase is said.
unfoldable pub report_line : ℕ → ℕ → Composite → Composite → Option (List ℕ)
report_line cycle address before after =
    if not (is_same_word before after) || not (is_silent (aural_of before after)) then Some (line_text cycle address before after) else None
