-- The bytes of an entry's fields: none is below 45, so that neither a comma nor a line feed is among them.
use Rattle.std.proofs.Common.{ℕ, zero, suc, ◌+◌, ◌/◌, ◌%◌, ◌<◌, ◌≤◌, ◌^◌, Bool, true, false, List, [], ◌∷◌, ◌++◌, map, take, refl, arith}
use Rattle.std.specs.Prelude.{nat_lt, if◌then◌else◌}
use Rattle.std.specs.Fmt.{decimal, digit_glyph}
use Rattle.std.proofs.lemmas.List.Elements.{All-take, recursion_from_All}
use Rattle.std.specs.List.{AllByRecursion, join_with_byte}
use Rattle.std.proofs.lemmas.Fmt.{decimal_by_steps}
use Rattle.acas_text.specs.Hex.{hex}
use Rattle.acas_base.specs.declared.advisory.Sense.{Sense}
use Rattle.acas_base.specs.declared.advisory.Sense.TheVariants.{Up, Down}
use Rattle.acas_base.specs.declared.advisory.Strength.{Strength}
use Rattle.acas_base.specs.declared.advisory.Strength.TheVariants.{Limit2000, Limit1000, Limit500, Level, Positive, Increase}
use Rattle.acas_base.specs.declared.advisory.Intent.{Intent}
use Rattle.acas_base.specs.declared.advisory.Cell.{Cell}
use Rattle.acas_base.specs.declared.advisory.Cell.TheVariants.{Clear, Traffic, Ra}
use Rattle.acas_base.specs.declared.entry.Entry.{Entry}
use Rattle.acas_base.specs.declared.entry.Entry.TheVariants.{Commit, Send, Take}
use Rattle.advisory_report.specs.Cells.{flag, age_text, cell_text, sense_letter, strength_digit}
use Rattle.acas_base.specs.declared.TheConstants.{CRAFTS}
use Rattle.acas_lines.specs.Split.{IsLine}
use Rattle.enc_file.specs.Spelling.{line_of}
use Rattle.rec_text.specs.Entries.{outcome, entry_fields, entry_line}
use Rattle.air_journal.specs.Ranges.{IsCell, IsEntry}
use Rattle.rec_text.proofs.Letters.{Lacks, lacks-append}

abbrev pub High : List ℕ → Type 0
High text = AllByRecursion (λ c. 45 ≤ c) text

pub high-lacks : (letter : ℕ) (text : List ℕ) → letter < 45 → High text → Lacks letter text
high-lacks letter [] low h = tt
high-lacks letter (c ∷ cs) low h = (λ e. absurd (omega (arith, h.0)), high-lacks letter cs low h.1)

pub high-append : (xs ys : List ℕ) → High xs → High ys → High (xs ++ ys)
high-append [] ys h k = k
high-append (x ∷ xs) ys h k = (h.0, high-append xs ys h.1 k)

high-flag : (b : Bool) (letter : ℕ) → 45 ≤ letter → High (flag b (letter ∷ []))
high-flag true letter h = (h, tt)
high-flag false letter h = tt

pub high-decimal : (n : ℕ) → n < 2 ^ 64 → High (decimal n)
high-decimal n h = decimal_by_steps (λ n ds. High ds) (λ k few. (omega arith, tt)) (λ k ds many before. high-append ds ((48 + k % 10) ∷ []) before (omega arith, tt)) n h

high-cond : (b : Bool) (d : ℕ) → 45 ≤ (if b then 48 + d else 55 + d)
high-cond true d = omega arith
high-cond false d = omega arith

high-glyph : (d : ℕ) → d < 16 → 45 ≤ digit_glyph true d
high-glyph d h = high-cond (nat_lt d 10) d

pub high-hex : (k n : ℕ) → High (hex k n)
unfolding hex
high-hex zero n = tt
high-hex (suc k) n = high-append (hex k (n / 16)) (digit_glyph true (n % 16) ∷ []) (high-hex k (n / 16)) (high-glyph (n % 16) (omega arith), tt)

high-letter : (s : Sense) → High (sense_letter s)
high-letter Up = (omega arith, tt)
high-letter Down = (omega arith, tt)

high-digit : (t : Strength) → High (strength_digit t)
high-digit Limit2000 = (omega arith, tt)
high-digit Limit1000 = (omega arith, tt)
high-digit Limit500 = (omega arith, tt)
high-digit Level = (omega arith, tt)
high-digit Positive = (omega arith, tt)
high-digit Increase = (omega arith, tt)

high-age : (it : Intent) → it.age < 2 ^ 64 → High (age_text it)
high-age it h =
    high-append ((decimal it.age ++ flag it.corrective (99 ∷ [])) ++ flag it.crossing (120 ∷ [])) (flag it.turned (114 ∷ []))
    (high-append (decimal it.age ++ flag it.corrective (99 ∷ [])) (flag it.crossing (120 ∷ []))
    (high-append (decimal it.age) (flag it.corrective (99 ∷ [])) (high-decimal it.age h) (high-flag it.corrective 99 (omega arith))) (high-flag it.crossing 120 (omega arith)))
    (high-flag it.turned 114 (omega arith))

pub high-cell : (c : Cell) → IsCell c → High (cell_text c)
high-cell Clear h = (omega arith, tt)
high-cell Traffic h = (omega arith, tt)
high-cell (Ra it) h =
    high-append ((sense_letter it.sense ++ strength_digit it.strength) ++ (46 ∷ [])) (age_text it)
    (high-append (sense_letter it.sense ++ strength_digit it.strength) (46 ∷ []) (high-append (sense_letter it.sense) (strength_digit it.strength) (high-letter it.sense) (high-digit it.strength)) (omega arith, tt))
    (high-age it (omega (arith, h)))

high-cells : (cs : List Cell) → AllByRecursion IsCell cs → AllByRecursion High (map cell_text cs)
high-cells [] h = tt
high-cells (c ∷ cs) h = (high-cell c h.0, high-cells cs h.1)

high-outcome : (good : Bool) → High (outcome good)
high-outcome true = (omega arith, tt)
high-outcome false = (omega arith, tt)

pub high-fields : (count : ℕ) (e : Entry) → count ≤ CRAFTS → IsEntry count e → AllByRecursion High (entry_fields count e)
high-fields count (Commit own cycle cells) few h =
    ((omega arith, tt), (high-decimal own (omega (arith, h.0)), (high-decimal cycle (omega (arith, h.1.1)), high-cells (take count cells.list) (recursion_from_All IsCell (take count cells.list) (All-take IsCell count cells.list h.2.each)))))
high-fields count (Send own target number word) few h =
    ((omega arith, tt), (high-decimal own (omega (arith, h.0)), (high-decimal target (omega (arith, h.1)), (high-decimal number (omega (arith, h.2.1)), (high-hex 14 word, tt)))))
high-fields count (Take own send copy good) few h =
    ((omega arith, tt), (high-decimal own (omega (arith, h.0)), (high-decimal send (omega (arith, h.1)), (high-decimal copy (omega (arith, h.2)), (high-outcome good, tt)))))

pub each-lacks : (letter : ℕ) (fields : List (List ℕ)) → letter < 45 → AllByRecursion High fields → AllByRecursion (Lacks letter) fields
each-lacks letter [] low h = tt
each-lacks letter (field ∷ fields) low h = (high-lacks letter field low h.0, each-lacks letter fields low h.1)

joined-lacks : (fields : List (List ℕ)) → AllByRecursion (Lacks 10) fields → Lacks 10 (join_with_byte 44 fields)
joined-lacks [] h = tt
joined-lacks (field ∷ []) h = h.0
joined-lacks (field ∷ next ∷ fields) h = lacks-append 10 field (44 ∷ join_with_byte 44 (next ∷ fields)) h.0 (λ e. absurd (omega arith), joined-lacks (next ∷ fields) h.1)

-- Fields without a line feed make one whole line.
pub line-whole : (fields : List (List ℕ)) → AllByRecursion (Lacks 10) fields → IsLine (line_of fields)
line-whole fields h = record { body = join_with_byte 44 fields; inside = joined-lacks fields h; whole = refl }

pub entry-is-line : (count : ℕ) (e : Entry) → count ≤ CRAFTS → IsEntry count e → IsLine (entry_line count e)
entry-is-line count e few h = line-whole (entry_fields count e) (each-lacks 10 (entry_fields count e) (omega arith) (high-fields count e few h))
