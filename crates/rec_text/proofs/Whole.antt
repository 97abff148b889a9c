-- Each line of a recording is one whole line.
use Rattle.std.proofs.Common.{◌≡◌, ℕ, zero, suc, ◌+◌, ◌<◌, ◌≤◌, ◌^◌, pos, Bool, true, false, List, [], ◌∷◌, ◌++◌, length, map, reverse, Option, Some, None, refl, arith, inr, ltb-true, eq-eqb}
use Rattle.std.specs.Prelude.{codes, nat_lt, option_to_list, if◌then◌else◌, not, ◌||◌}
use Rattle.std.specs.Fmt.{decimal, signed_decimal}
use Rattle.std.specs.List.{AllByRecursion, flat_map, list_all, range_with_len}
use Rattle.std.proofs.lemmas.Bool.{and_parts}
use Rattle.std.proofs.lemmas.List.Elements.{recursion_from_All}
use Rattle.acas_base.specs.Encounter.{IsEncounter, Parts}
use Rattle.acas_base.specs.declared.advisory.Cells.{Cells}
use Rattle.acas_base.specs.declared.advisory.Strength.{Strength}
use Rattle.acas_base.specs.declared.advisory.Strength.TheVariants.{Limit2000, Limit1000, Limit500, Level, Positive, Increase}
use Rattle.acas_base.specs.declared.TheConstants.{CRAFTS}
use Rattle.acas_base.specs.declared.entry.Entry.{Entry}
use Rattle.acas_lines.specs.Split.{IsLine}
use Rattle.acas_text.specs.Hex.{hex}
use Rattle.advisory_report.specs.Composite.{composite_of, down_word, up_word, word_for, word_of}
use Rattle.advisory_report.specs.Phrases.{aural_of, phrase_text}
use Rattle.advisory_report.specs.Report.{is_same_word, is_silent, line_text, report_line}
use Rattle.advisory_report.specs.declared.aural.Aural.{Aural}
use Rattle.advisory_report.specs.declared.aural.Aural.TheVariants as aurals
use Rattle.advisory_report.specs.declared.composite.Composite.{Composite}
use Rattle.air_journal.proofs.Bounds.{few-crafts, fits, most-few}
use Rattle.air_journal.proofs.WellFormed.{entries-fit}
use Rattle.air_journal.specs.Airs.{air_of}
use Rattle.air_journal.specs.Cells.{commit_cells}
use Rattle.air_journal.specs.Ranges.{IsEntry}
use Rattle.air_rules.specs.Rules.{IsLegal}
use Rattle.enc_file.proofs.CanonicalWhole.{labelled}
use Rattle.enc_file.proofs.LinesRead.{IsPlainField, IsReadable}
use Rattle.enc_file.proofs.PlainRecords.{canonical-readable}
use Rattle.enc_file.specs.Canonical.{canonical_lines, canonical_records}
use Rattle.enc_file.specs.Spelling.{line_of}
use Rattle.rec_text.proofs.HighBytes.{entry-is-line, high-hex, high-lacks, line-whole}
use Rattle.rec_text.proofs.Letters.{Lacks, lacks-decimal}
use Rattle.rec_text.proofs.Putting.{all-back}
use Rattle.rec_text.proofs.Reporting.{few-lines}
use Rattle.rec_text.specs.Entries.{entry_line, entry_lines}
use Rattle.acas_lines.specs.Lines.{count_line}
use Rattle.rec_text.specs.Recording.{close_line, closing_lines, head_line, journal_line, recording_lines}
use Rattle.rec_text.specs.Report.{commit_report, report_in, report_lines, report_of}

abbrev pub AreWhole : List (List ℕ) → Type 0
AreWhole lines = AllByRecursion IsLine lines

-- ---- lists

pub each-append : {X : Type 0} (P : X → Type 0) (xs ys : List X) → AllByRecursion P xs → AllByRecursion P ys → AllByRecursion P (xs ++ ys)
each-append P [] ys h k = k
each-append P (x ∷ xs) ys h k = (h.0, each-append P xs ys h.1 k)

pub each-map : {X Y : Type 0} (P : Y → Type 0) (f : X → Y) (Q : X → Type 0) → ((x : X) → Q x → P (f x)) → (xs : List X) → AllByRecursion Q xs → AllByRecursion P (map f xs)
each-map P f Q step [] h = tt
each-map P f Q step (x ∷ xs) h = (step x h.0, each-map P f Q step xs h.1)

each-flat : {X : Type 0} (P : X → Type 0) (f : ℕ → List X) (first n : ℕ) → ((k : ℕ) → k < first + n → AllByRecursion P (f k)) → AllByRecursion P (flat_map f (range_with_len first n))
each-flat P f first zero h = tt
each-flat P f first (suc n) h = each-append P (f first) (flat_map f (range_with_len (first + 1) n)) (h first (omega arith)) (each-flat P f (first + 1) n (λ k g. h k (omega arith)))

-- ---- fields

-- A field has no line feed.
abbrev IsPart : List ℕ → Type 0
IsPart field = Lacks 10 field

-- The letters come after the line feed in ASCII.
word-part : (word : List ℕ) → list_all (λ c. nat_lt 10 c) word ≡ true → IsPart word
word-part [] e = tt
word-part (c ∷ cs) e =
    let both = and_parts (nat_lt 10 c) (list_all (λ b. nat_lt 10 b) cs) e in
    let after = ltb-true 10 c both.0 in
    (λ same. absurd (omega arith), word-part cs both.1)

number-part : (n : ℕ) → n < 2 ^ 64 → IsPart (decimal n)
number-part n h = lacks-decimal 10 n (inr (omega arith)) h

-- ---- the encounter

plain-part : (field : List ℕ) → IsPlainField field → IsPart field
plain-part [] h = tt
plain-part (c ∷ cs) h = (λ same. absurd (let e = eq-eqb c 10 same in let f = h.0.no_feed in cc), plain-part cs h.1)

plain-parts : (fields : List (List ℕ)) → AllByRecursion IsPlainField fields → AllByRecursion IsPart fields
plain-parts [] h = tt
plain-parts (field ∷ fields) h = (plain-part field h.0, plain-parts fields h.1)

record-whole : (fields : List (List ℕ)) → IsReadable fields → IsLine (line_of fields)
record-whole [] h = absurd h
record-whole ([] ∷ fields) h = absurd h
record-whole ((c ∷ cs) ∷ fields) h = line-whole ((c ∷ cs) ∷ fields) (plain-part (c ∷ cs) h.0, plain-parts fields h.1)

pub canonical-whole : (e : Parts) → IsEncounter e → AreWhole (canonical_lines e)
canonical-whole e is = each-map IsLine line_of IsReadable record-whole (canonical_records e) (canonical-readable e (labelled e is))

-- ---- the report

up-part : (s : Strength) → IsPart (up_word s)
up-part Limit2000 = word-part (codes "UP-2000") refl
up-part Limit1000 = word-part (codes "UP-1000") refl
up-part Limit500 = word-part (codes "UP-500") refl
up-part Level = word-part (codes "UP-LEVEL") refl
up-part Positive = word-part (codes "UP-CLIMB") refl
up-part Increase = word-part (codes "UP-INCREASE") refl

down-part : (s : Strength) → IsPart (down_word s)
down-part Limit2000 = word-part (codes "DOWN-2000") refl
down-part Limit1000 = word-part (codes "DOWN-1000") refl
down-part Limit500 = word-part (codes "DOWN-500") refl
down-part Level = word-part (codes "DOWN-LEVEL") refl
down-part Positive = word-part (codes "DOWN-DESCEND") refl
down-part Increase = word-part (codes "DOWN-INCREASE") refl

shown-part : (up down : Option Strength) (traffic : Bool) → IsPart (word_for up down traffic)
shown-part None None true = word-part (codes "TRAFFIC") refl
shown-part None None false = word-part (codes "CLEAR") refl
shown-part (Some up) None traffic = up-part up
shown-part None (Some down) traffic = down-part down
shown-part (Some up) (Some down) traffic = word-part (codes "LEVEL-BOTH") refl

phrase-part : (aural : Aural) → IsPart (phrase_text aural)
phrase-part aurals.TrafficTraffic = word-part (codes "Traffic traffic") refl
phrase-part aurals.ClimbClimb = word-part (codes "Climb climb") refl
phrase-part aurals.DescendDescend = word-part (codes "Descend descend") refl
phrase-part aurals.ClimbCrossing = word-part (codes "Climb crossing climb") refl
phrase-part aurals.DescendCrossing = word-part (codes "Descend crossing descend") refl
phrase-part aurals.IncreaseClimb = word-part (codes "Increase climb") refl
phrase-part aurals.IncreaseDescent = word-part (codes "Increase descent") refl
phrase-part aurals.ClimbNow = word-part (codes "Climb climb NOW") refl
phrase-part aurals.DescendNow = word-part (codes "Descend descend NOW") refl
phrase-part aurals.Maintain = word-part (codes "Maintain vertical speed maintain") refl
phrase-part aurals.LevelOff = word-part (codes "Level off level off") refl
phrase-part aurals.Monitor = word-part (codes "Monitor vertical speed") refl
phrase-part aurals.ClearOfConflict = word-part (codes "Clear of conflict") refl
phrase-part aurals.Silent = word-part (codes "-") refl

change-whole : (cycle address : ℕ) (before after : Composite) → cycle < 2 ^ 64 → IsLine (line_text cycle address before after)
change-whole cycle address before after h =
    line-whole (codes "r" ∷ signed_decimal (pos cycle) ∷ hex 6 address ∷ word_of after ∷ phrase_text (aural_of before after) ∷ [])
    (word-part (codes "r") refl, (number-part cycle h, (high-lacks 10 (hex 6 address) (omega arith) (high-hex 6 address), (shown-part after.up after.down after.traffic, (phrase-part (aural_of before after), tt)))))

either-whole : (b : Bool) (line : List ℕ) → IsLine line → AreWhole (option_to_list (if b then Some line else None))
either-whole true line h = (h, tt)
either-whole false line h = tt

commit-whole : (cycle address : ℕ) (before : Composite) (cells : Option Cells) → cycle < 2 ^ 64 → AreWhole (commit_report cycle address before cells)
unfolding report_line
commit-whole cycle address before None h = tt
commit-whole cycle address before (Some cells) h =
    let after = composite_of cells in
    either-whole (not (is_same_word before after) || not (is_silent (aural_of before after))) (line_text cycle address before after) (change-whole cycle address before after h)

pub report-whole : (e : Parts) (journal : List Entry) → IsEncounter e → AreWhole (report_lines e journal)
unfolding report_lines
report-whole e journal is =
    let cycles : e.cycles ≤ 600 = is.run.length.1 in
    each-flat IsLine (report_in e journal) 1 e.cycles (λ cycle h. each-flat IsLine (report_of e journal cycle) 0 (length e.crafts) (λ own g. commit-whole cycle _ _ (commit_cells journal own cycle) (omega arith)))

-- ---- the journal

pub entries-whole : (e : Parts) (journal : List Entry) → IsEncounter e → IsLegal (air_of e) journal → AreWhole (entry_lines (length e.crafts) journal)
entries-whole e journal is legal =
    let n = length e.crafts in
    let few : n ≤ CRAFTS = few-crafts e is in
    each-map IsLine (entry_line n) (IsEntry n) (λ entry fit. entry-is-line n entry few fit) (reverse journal) (recursion_from_All (IsEntry n) (reverse journal) (all-back (IsEntry n) journal (entries-fit e journal is legal)))

-- ---- all of it

count-whole : (word : List ℕ) (n : ℕ) → IsPart word → n < 2 ^ 64 → IsLine (count_line word n)
count-whole word n h few = line-whole (word ∷ decimal n ∷ []) (h, (number-part n few, tt))

pub few-entries : (e : Parts) (journal : List Entry) → IsEncounter e → IsLegal (air_of e) journal → length journal < 2 ^ 64
few-entries e journal is legal = (let f = fits e journal is legal in let g = most-few e is in omega arith)

pub closing-whole : (e : Parts) (journal : List Entry) → IsEncounter e → AreWhole (closing_lines e journal)
closing-whole e journal is =
    let close : IsLine close_line = record { body = codes "close"; inside = word-part (codes "close") refl; whole = refl } in
    let few = few-lines e journal is in
    (count-whole (codes "report") (length (report_lines e journal)) (word-part (codes "report") refl) (omega arith), each-append IsLine (report_lines e journal) (close_line ∷ []) (report-whole e journal is) (close, tt))

pub recording-whole : (e : Parts) (journal : List Entry) → IsEncounter e → IsLegal (air_of e) journal → AreWhole (recording_lines e journal)
recording-whole e journal is legal =
    let head : IsLine head_line = record { body = codes "recording,1"; inside = word-part (codes "recording,1") refl; whole = refl } in
    let count = count-whole (codes "journal") (length journal) (word-part (codes "journal") refl) (few-entries e journal is legal) in
    let entries = each-append IsLine (entry_lines (length e.crafts) journal) (closing_lines e journal) (entries-whole e journal is legal) (closing-whole e journal is) in
    (head, each-append IsLine (canonical_lines e) (journal_line (length journal) ∷ (entry_lines (length e.crafts) journal ++ closing_lines e journal)) (canonical-whole e is) (count, entries))
