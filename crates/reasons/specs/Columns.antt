-- The columns of the text: the name of each, and what it tells of a line.
use Rattle.std.specs.Prelude.{ℕ, List, [], ◌∷◌, ◌++◌, Option, codes, map}
use Rattle.std.specs.Fmt.{decimal, signed_decimal}
use Rattle.acas_base.specs.declared.setting.Profile.{Profile}
use Rattle.acas_base.specs.declared.setting.Profile.TheVariants.{One, Two}
use Rattle.acas_base.specs.declared.advisory.Rank.{Rank}
use Rattle.acas_base.specs.declared.advisory.Rank.TheVariants.{First, Second, Free}
use Rattle.acas_lines.specs.Lines.{line_of}
use Rattle.acas_text.specs.Fields.{if_any, mark, with_point}
use Rattle.acas_text.specs.Hex.{hex}
use Rattle.advisory_report.specs.Cells.{cell_text, strength_digit}
use Rattle.advisory_report.specs.Words.{complement_text, sense_text}
use Rattle.flight.specs.declared.measuring.Meas.{Meas}
use Rattle.reasons.specs.declared.reason.Reason.{Reason}
use Rattle.reasons.specs.declared.rules.Rule.{Rule}
use Rattle.reasons.specs.declared.rules.Rule.TheVariants as rules
use Rattle.reasons.specs.declared.shown.Continued.{Continued}
use Rattle.reasons.specs.declared.shown.Projected.{Projected}
use Rattle.reasons.specs.declared.shown.Tested.{Tested}
use Rattle.reasons.specs.declared.told.Told.{Told}
use Rattle.test_seconds.specs.declared.pair.TestSeconds.{TestSeconds}

-- A column of a text about such values.
pub record Column (T : Type 0) : Type 0 where
  pub name : List ℕ
  pub text : T → List ℕ

abbrev pub column : {T : Type 0} → List ℕ → (T → List ℕ) → Column T
column name text = record { name = name; text = text }

-- The fields of a value, or as many with nothing in them.
abbrev pub texts : {T : Type 0} → List (Column T) → T → List (List ℕ)
texts columns value = map (λ c. c.text value) columns

abbrev pub texts_if_any : {T : Type 0} → List (Column T) → Option T → List (List ℕ)
texts_if_any columns value = map (λ c. if_any c.text value) columns

-- Columns about a part of a reason that there may be.
abbrev pub where_any : {T : Type 0} → (Reason → Option T) → List (Column T) → List (Column Reason)
where_any part columns = map (λ c. column c.name (λ reason. if_any c.text (part reason))) columns

-- ---- words

abbrev pub rank_text : Rank → List ℕ
rank_text First = codes "first"
rank_text Second = codes "second"
rank_text Free = codes "free"

abbrev pub rule_text : Rule → List ℕ
rule_text rules.Untested = codes "untested"
rule_text rules.Starts = codes "starts"
rule_text rules.StartsAsTold = codes "starts-as-told"
rule_text rules.Traffic = codes "traffic"
rule_text rules.Quiet = codes "quiet"
rule_text rules.EndsBelowLevel = codes "ends-below-level"
rule_text rules.EndsWithoutThreat = codes "ends-without-threat"
rule_text rules.Obeys = codes "obeys"
rule_text rules.Reverses = codes "reverses"
rule_text rules.Strengthens = codes "strengthens"
rule_text rules.Keeps = codes "keeps"
rule_text rules.Weakens = codes "weakens"
rule_text rules.Capped = codes "capped"

-- ---- the columns, group by group

-- The commit.
abbrev pub position_column : Column Reason
position_column = column (codes "position") (λ reason. decimal reason.position)

-- When and who.
abbrev pub named_columns : List (Column Reason)
named_columns =
    column (codes "cycle") (λ reason. decimal reason.cycle)
    ∷ column (codes "own") (λ reason. hex 6 reason.own)
    ∷ column (codes "other") (λ reason. hex 6 reason.other)
    ∷ column (codes "rank") (λ reason. rank_text reason.seen.rank)
    ∷ []

-- What was measured of the other aircraft, where its reply wasn't missed.
abbrev pub reply_columns : List (Column Meas)
reply_columns =
    column (codes "measured_range_ft") (λ meas. decimal meas.range)
    ∷ column (codes "reported_alt_ft") (λ meas. signed_decimal meas.alt)
    ∷ []

-- What own aircraft measures of itself.
abbrev pub own_columns : List (Column Reason)
own_columns =
    column (codes "own_alt_ft") (λ reason. signed_decimal reason.seen.altitude)
    ∷ column (codes "agl_ft") (λ reason. signed_decimal reason.seen.height)
    ∷ column (codes "level") (λ reason. decimal reason.seen.level)
    ∷ column (codes "climbs") (λ reason. mark reason.seen.climbs)
    ∷ []

-- What is tracked, where the pair is tested.
abbrev pub tracked_columns : List (Column Tested)
tracked_columns =
    column (codes "range_ft") (λ tested. with_point tested.range)
    ∷ column (codes "range_rate_fps") (λ tested. with_point tested.range_rate)
    ∷ column (codes "alt_diff_ft") (λ tested. with_point tested.height)
    ∷ column (codes "alt_diff_rate_fpm") (λ tested. with_point tested.height_rate)
    ∷ column (codes "own_rate_fpm") (λ tested. with_point tested.own_rate)
    ∷ []

-- The seconds that a test needs, where there are any.
abbrev pub seconds_text : Option ℕ → List ℕ
seconds_text seconds = if_any decimal seconds

abbrev pub range_text : TestSeconds → List ℕ
range_text needs = seconds_text needs.range

abbrev pub altitude_text : TestSeconds → List ℕ
altitude_text needs = seconds_text needs.altitude

abbrev pub tau_text : TestSeconds → List ℕ
tau_text needs = decimal needs.tau

-- What the tests need, and whether they hold.
abbrev pub test_columns : List (Column Tested)
test_columns =
    column (codes "ta_range_s") (λ tested. range_text tested.ta)
    ∷ column (codes "ta_alt_s") (λ tested. altitude_text tested.ta)
    ∷ column (codes "ra_range_s") (λ tested. if_any range_text tested.ra)
    ∷ column (codes "ra_alt_s") (λ tested. if_any altitude_text tested.ra)
    ∷ column (codes "ta_tau_s") (λ tested. tau_text tested.ta)
    ∷ column (codes "ra_tau_s") (λ tested. if_any tau_text tested.ra)
    ∷ column (codes "traffic") (λ tested. mark tested.traffic)
    ∷ column (codes "threat") (λ tested. mark tested.threat)
    ∷ []

abbrev pub tested_columns : List (Column Tested)
tested_columns = tracked_columns ++ test_columns

-- What the senses would give, where own aircraft resolves besides.
abbrev pub projected_columns : List (Column Projected)
projected_columns =
    column (codes "halves") (λ projected. decimal projected.halves)
    ∷ column (codes "alim_ft") (λ projected. decimal projected.alim)
    ∷ column (codes "side") (λ projected. sense_text projected.side)
    ∷ column (codes "up_strength") (λ projected. strength_digit projected.up.strength)
    ∷ column (codes "up_ft") (λ projected. with_point projected.up.separation)
    ∷ column (codes "down_strength") (λ projected. strength_digit projected.down.strength)
    ∷ column (codes "down_ft") (λ projected. with_point projected.down.separation)
    ∷ column (codes "chosen") (λ projected. sense_text projected.chosen)
    ∷ []

-- What an advisory may go on with, where there was one besides.
abbrev pub continued_columns : List (Column Continued)
continued_columns =
    column (codes "fresh") (λ continued. mark continued.fresh)
    ∷ column (codes "need") (λ continued. strength_digit continued.need)
    ∷ column (codes "need_ft") (λ continued. with_point continued.separation)
    ∷ column (codes "same_later_ft") (λ continued. with_point continued.same_later)
    ∷ column (codes "other_later_ft") (λ continued. with_point continued.other_later)
    ∷ column (codes "has_alim") (λ continued. mark continued.has_alim)
    ∷ []

-- The complement in force, where there is one, the positions of the send and of the take of its message, and the
-- commits since.
abbrev pub told_columns : List (Column Told)
told_columns =
    column (codes "complement") (λ told. complement_text told.complement)
    ∷ column (codes "sent_at") (λ told. decimal told.sent_at)
    ∷ column (codes "taken_at") (λ told. decimal told.taken_at)
    ∷ column (codes "commits_since") (λ told. decimal told.commits_since)
    ∷ []

-- What was decided.
abbrev pub decided_columns : List (Column Reason)
decided_columns =
    column (codes "before") (λ reason. cell_text reason.before)
    ∷ column (codes "cell") (λ reason. cell_text reason.cell)
    ∷ []

-- By which rule. The words are of the rules of profile 1.
abbrev pub rule_columns : Profile → List (Column Reason)
rule_columns One = column (codes "rule") (λ reason. rule_text reason.rule) ∷ []
rule_columns Two = []

-- ---- all columns, in order

abbrev pub further_columns : Profile → List (Column Reason)
further_columns profile =
    named_columns
    ++ (where_any (λ reason. reason.seen.reply) reply_columns
    ++ (own_columns
    ++ (where_any (λ reason. reason.seen.tested) tested_columns
    ++ (where_any (λ reason. reason.seen.projected) projected_columns
    ++ (where_any (λ reason. reason.continued) continued_columns
    ++ (where_any (λ reason. reason.told) told_columns
    ++ (decided_columns ++ rule_columns profile)))))))

abbrev pub columns : Profile → List (Column Reason)
columns profile = position_column ∷ further_columns profile

-- How the line with their names ends.
abbrev pub names_end : Profile → List ℕ
names_end One = codes ",rule\n"
names_end Two = codes "\n"

-- The line with their names, and the line of a reason.
unfoldable pub names_line : Profile → List ℕ
names_line profile = line_of (map (λ (c : Column Reason). c.name) (columns profile))

unfoldable pub reason_line : Profile → Reason → List ℕ
reason_line profile reason = line_of (texts (columns profile) reason)
