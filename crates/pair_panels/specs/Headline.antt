-- Where the nearest pair comes nearest, in a line at the head of a page.
use Rattle.std.specs.Prelude.{ℕ, ◌==◌, if◌then◌else◌, List, [], ◌∷◌, ◌++◌, codes}
use Rattle.acas_base.specs.Encounter.{Parts}
use Rattle.labels.specs.Labels.{LabelWords}
use Rattle.page_marks.specs.Paints.{letters}
use Rattle.page_marks.specs.Places.{point_at}
use Rattle.page_marks.specs.Words.{when_text}
use Rattle.pair_panels.specs.Distances.{distance_in}
use Rattle.pair_panels.specs.Panel.{called, value_text}
use Rattle.pair_panels.specs.declared.distance.Distance.TheVariants.{Slant, Vertical}
use Rattle.pair_panels.specs.declared.nearest.NearPair.{NearPair}
use Rattle.svg_text.specs.Marks.{Mark, worded}
use Rattle.svg_text.specs.declared.shapes.Anchor.TheVariants as anchors
use Rattle.svg_text.specs.declared.shapes.Weight.TheVariants as weights

-- Two aircraft with these names, and when they are nearest.
unfoldable pub pair_text : List ℕ → List ℕ → List ℕ → List ℕ → List ℕ
pair_text one other when end = codes "closest as planned: " ++ one ++ codes " and " ++ other ++ codes ", " ++ when ++ end

-- That this is the last cycle of the run, where it is.
abbrev pub end_text : ℕ → ℕ → List ℕ
end_text cycle cycles = if cycle == cycles then codes "; the run ends there" else []

-- How far they are apart then.
unfoldable pub apart_text : ℕ → ℕ → List ℕ
apart_text slant vertical = value_text Slant slant ++ codes ", " ++ value_text Vertical vertical

abbrev pub pair_words : Parts → LabelWords → NearPair → List ℕ
pair_words e labels pair = pair_text (called e labels pair.one) (called e labels pair.other) (when_text labels.start pair.cycle) (end_text pair.cycle e.cycles)

abbrev pub apart_words : Parts → NearPair → List ℕ
apart_words e pair = apart_text (distance_in e Slant pair pair.cycle) (distance_in e Vertical pair pair.cycle)

-- The line stands so far down: at the left which aircraft and when, and at the right how far apart.
abbrev pub headline_with : ℕ → List ℕ → List ℕ → List Mark
headline_with y pair apart =
    worded (letters (point_at 4000 y) 240 anchors.Start weights.Regular) pair []
    ∷ worded (letters (point_at 19600 y) 240 anchors.End weights.Regular) apart [] ∷ []

unfoldable pub headline_marks : ℕ → Parts → LabelWords → NearPair → List Mark
headline_marks y e labels pair = headline_with y (pair_words e labels pair) (apart_words e pair)
