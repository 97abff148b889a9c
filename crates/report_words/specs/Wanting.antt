-- Which words say what a run is wanted for. It is said in one way.
use Rattle.std.specs.Prelude.{◌≢◌, ℕ, ◌<◌, ◌≤◌, ◌^◌, List, [], ◌∷◌}
use Rattle.std.specs.Fmt.{decimal}
use Rattle.acas_text.specs.Hex.{hex}
use Rattle.report_words.specs.Saying.{text_of}
use Rattle.report_words.specs.declared.wanted.Wanted.{Wanted}
use Rattle.report_words.specs.declared.wanted.Wanted.TheVariants as wanted

abbrev pub words_of : Wanted → List (List ℕ)
words_of (wanted.Word address cycle word) = hex 6 address ∷ decimal cycle ∷ text_of word ∷ []
words_of (wanted.Equal one other cycles) = hex 6 one ∷ hex 6 other ∷ decimal cycles ∷ []

-- Its numbers are in their ranges, and two aircraft are different ones.
abbrev pub IsInRange : Wanted → Type 0
IsInRange (wanted.Word address cycle word) = (address < 2 ^ 24) × ((1 ≤ cycle) × (cycle ≤ 600))
IsInRange (wanted.Equal one other cycles) = (one < 2 ^ 24) × ((other < 2 ^ 24) × ((one ≢ other) × ((1 ≤ cycles) × (cycles ≤ 600))))
