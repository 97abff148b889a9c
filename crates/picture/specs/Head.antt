-- What stands at the head.
use Rattle.std.specs.Prelude.{ℕ, ◌+◌, Bool, true, false, if◌then◌else◌, List, [], ◌∷◌, ◌++◌, codes, filter, is_some, length, Option, Some, None}
use Rattle.std.specs.Fmt.{decimal}
use Rattle.acas_base.specs.Encounter.{Parts}
use Rattle.acas_base.specs.declared.craft.CraftSpec.{CraftSpec}
use Rattle.acas_base.specs.declared.craft.Kind.{Kind}
use Rattle.acas_base.specs.declared.craft.Kind.TheVariants.{Ra, Ta, Xpdr}
use Rattle.acas_base.specs.declared.entry.Entry.{Entry}
use Rattle.air_rules.specs.Journal.{as_sent, count_of as count_where}
use Rattle.labels.specs.Labels.{LabelWords}
use Rattle.page_marks.specs.Places.{point_at}
use Rattle.page_marks.specs.Paints.{letters}
use Rattle.pair_panels.specs.Headline.{headline_marks}
use Rattle.pair_panels.specs.declared.nearest.NearPair.{NearPair}
use Rattle.svg_text.specs.Marks.{Mark, worded}
use Rattle.svg_text.specs.declared.shapes.Anchor.TheVariants as anchors
use Rattle.svg_text.specs.declared.shapes.Weight.TheVariants as weights

abbrev pub is_same_kind : Kind → Kind → Bool
is_same_kind Ra Ra = true
is_same_kind Ra Ta = false
is_same_kind Ra Xpdr = false
is_same_kind Ta Ra = false
is_same_kind Ta Ta = true
is_same_kind Ta Xpdr = false
is_same_kind Xpdr Ra = false
is_same_kind Xpdr Ta = false
is_same_kind Xpdr Xpdr = true

-- How many aircraft there are of a kind.
abbrev pub count_of : Kind → List CraftSpec → ℕ
count_of kind crafts = length (filter (λ (craft : CraftSpec). is_same_kind kind craft.kind) crafts)

unfoldable pub number_text : ℕ → List ℕ
number_text number = codes "Encounter of " ++ decimal number ++ codes " aircraft ("

-- How many aircraft there are, and how many of each kind.
unfoldable pub crafts_text : List CraftSpec → List ℕ
crafts_text crafts =
    number_text (length crafts) ++ decimal (count_of Ra crafts) ++ codes " RA, " ++ decimal (count_of Ta crafts)
    ++ codes " TA, " ++ decimal (count_of Xpdr crafts) ++ codes " XPDR), "

-- The same, and how many cycles.
unfoldable pub title_text : Parts → List ℕ
title_text e = crafts_text e.crafts ++ decimal e.cycles ++ codes " cycles"

abbrev pub is_send : Entry → Bool
is_send entry = is_some (as_sent entry)

-- A count with one entry more.
abbrev pub counted : ℕ → Entry → ℕ
counted sent entry = if is_send entry then sent + 1 else sent

-- How many messages were sent.
unfoldable pub sent_in : List Entry → ℕ
sent_in journal = count_where is_send journal

unfoldable pub sent_text : ℕ → List ℕ
sent_text sent = decimal sent ++ codes " messages sent"

-- What readers of screens are told of the drawing.
abbrev pub description : List ℕ
description = codes "The traffic and resolution advisories of each aircraft against time, a row for each aircraft."

abbrev pub title_marks : Parts → List Entry → List Mark
title_marks e journal =
    worded (letters (point_at 400 700) 440 anchors.Start weights.Bold) (title_text e) []
    ∷ worded (letters (point_at 400 1150) 280 anchors.Start weights.Regular) (sent_text (sent_in journal)) [] ∷ []

-- Where the nearest pair comes nearest, beside how many messages were sent.
abbrev pub nearest_marks : LabelWords → Parts → Option NearPair → List Mark
nearest_marks it e None = []
nearest_marks it e (Some pair) = headline_marks 1150 e it pair

abbrev pub head_marks : LabelWords → Parts → List Entry → Option NearPair → List Mark
head_marks it e journal pair = title_marks e journal ++ nearest_marks it e pair
