-- One line is the line of one entry.
use Rattle.std.proofs.Common.{◌≡◌, ℕ, ◌<◌, ◌≤◌, ◌^◌, Bool, true, false, List, [], ◌∷◌, ◌++◌, length, get_or, map, take, drop, refl, sym, ap, ◌∙◌, arith}
use Rattle.std.specs.Prelude.{codes, ◌==◌, if◌then◌else◌}
use Rattle.std.specs.Fmt.{decimal}
use Rattle.std.proofs.lemmas.List.Elements.{All-take, recursion_from_All}
use Rattle.std.specs.List.{AllByRecursion, join_with_byte}
use Rattle.std.proofs.lemmas.Fmt.{decimal_injective}
use Rattle.std.proofs.lemmas.List.{append_cancel_right, take-append-drop}
use Rattle.acas_text.specs.Hex.{hex}
use Rattle.acas_text.proofs.Digits.{digits-value-hex}
use Rattle.std.specs.Str.Parse.{digits_value}
use Rattle.acas_base.specs.declared.TheConstants.{CRAFTS}
use Rattle.acas_base.specs.declared.advisory.Sense.{Sense}
use Rattle.acas_base.specs.declared.advisory.Sense.TheVariants.{Up, Down}
use Rattle.acas_base.specs.declared.advisory.Strength.{Strength}
use Rattle.acas_base.specs.declared.advisory.Strength.TheVariants.{Limit2000, Limit1000, Limit500, Level, Positive, Increase}
use Rattle.acas_base.specs.declared.advisory.Intent.{Intent}
use Rattle.acas_base.specs.declared.advisory.Cell.{Cell}
use Rattle.acas_base.specs.declared.advisory.Cells.{Cells}
use Rattle.acas_base.specs.declared.advisory.Cell.TheVariants.{Clear, Traffic, Ra}
use Rattle.acas_base.specs.declared.entry.Entry.{Entry}
use Rattle.acas_base.specs.declared.entry.Entry.TheVariants.{Commit, Send, Take}
use Rattle.advisory_report.specs.Cells.{age_text, cell_text, sense_letter, strength_digit}
use Rattle.rec_text.specs.Entries.{outcome, entry_fields, entry_line}
use Rattle.air_journal.specs.Ranges.{IsCell, IsEntry, AreCells}
use Rattle.rec_text.specs.Fields.{fields_of}
use Rattle.rec_text.proofs.Letters.{age-parts, without-c, without-x, without-r}
use Rattle.rec_text.proofs.HighBytes.{each-lacks, high-fields}
use Rattle.rec_text.proofs.Splits.{split-joined}

-- The code of a sense's letter, and of a strength's digit.
abbrev pub sense_code : Sense → ℕ
sense_code Up = 85
sense_code Down = 68

abbrev pub strength_code : Strength → ℕ
strength_code Limit2000 = 49
strength_code Limit1000 = 50
strength_code Limit500 = 51
strength_code Level = 52
strength_code Positive = 53
strength_code Increase = 54

sense-is : (s : Sense) → sense_letter s ≡ sense_code s ∷ []
sense-is Up = refl
sense-is Down = refl

strength-is : (t : Strength) → strength_digit t ≡ strength_code t ∷ []
strength-is Limit2000 = refl
strength-is Limit1000 = refl
strength-is Limit500 = refl
strength-is Level = refl
strength-is Positive = refl
strength-is Increase = refl

-- An advisory's text, byte by byte up to its age.
pub advisory-is : (it : Intent) → cell_text (Ra it) ≡ sense_code it.sense ∷ strength_code it.strength ∷ 46 ∷ age_text it
advisory-is it =
    ap (λ t. ((t ++ strength_digit it.strength) ++ (46 ∷ [])) ++ age_text it) (sense-is it.sense) ∙ ap (λ t. (((sense_code it.sense ∷ []) ++ t) ++ (46 ∷ [])) ++ age_text it) (strength-is it.strength)

-- The sense and the strength of a letter and a digit.
abbrev sense_from : ℕ → Sense
sense_from n = if n == 85 then Up else Down

sense-back : (s : Sense) → sense_from (sense_code s) ≡ s
sense-back Up = refl
sense-back Down = refl

abbrev strength_from : ℕ → Strength
strength_from n = if n == 49 then Limit2000 else (if n == 50 then Limit1000 else (if n == 51 then Limit500 else (if n == 52 then Level else (if n == 53 then Positive else Increase))))

strength-back : (t : Strength) → strength_from (strength_code t) ≡ t
strength-back Limit2000 = refl
strength-back Limit1000 = refl
strength-back Limit500 = refl
strength-back Level = refl
strength-back Positive = refl
strength-back Increase = refl

code-high : (s : Sense) → (46 < sense_code s) × (sense_code s < 116)
code-high Up = (omega arith, omega arith)
code-high Down = (omega arith, omega arith)

-- An advisory of these parts.
abbrev intent : Sense → Strength → ℕ → Bool → Bool → Bool → Intent
intent s t a u x c = record { sense = s; strength = t; age = a; turned = u; crossing = x; corrective = c }

intent-same : (it jt : Intent) → it.sense ≡ jt.sense → it.strength ≡ jt.strength → it.age ≡ jt.age → it.turned ≡ jt.turned → it.crossing ≡ jt.crossing → it.corrective ≡ jt.corrective → it ≡ jt
intent-same it jt a b c d e f =
    let same : intent it.sense it.strength it.age it.turned it.crossing it.corrective ≡ intent jt.sense jt.strength jt.age jt.turned jt.crossing jt.corrective = cc in
    same

-- The first byte of an advisory's text.
first-high : (it : Intent) (text : List ℕ) → text ≡ cell_text (Ra it) → (46 < get_or text 0 0) × (get_or text 0 0 < 116)
first-high it text e = rw (e ∙ advisory-is it) (code-high it.sense)

pub cell-same : (c d : Cell) → IsCell c → IsCell d → cell_text c ≡ cell_text d → c ≡ d
cell-same Clear Clear h k e = refl
cell-same Clear Traffic h k e = absurd (omega (arith, ap (λ t. get_or t 0 0) e))
cell-same Clear (Ra it) h k e = absurd (omega (arith, first-high it (codes "-") e))
cell-same Traffic Clear h k e = absurd (omega (arith, ap (λ t. get_or t 0 0) e))
cell-same Traffic Traffic h k e = refl
cell-same Traffic (Ra it) h k e = absurd (omega (arith, first-high it (codes "t") e))
cell-same (Ra it) Clear h k e = absurd (omega (arith, first-high it (codes "-") (sym e)))
cell-same (Ra it) Traffic h k e = absurd (omega (arith, first-high it (codes "t") (sym e)))
cell-same (Ra it) (Ra jt) h k e =
    let bytes = sym (advisory-is it) ∙ e ∙ advisory-is jt in
    let sense = sym (sense-back it.sense) ∙ ap (λ t. sense_from (get_or t 0 0)) bytes ∙ sense-back jt.sense in
    let strength = sym (strength-back it.strength) ∙ ap (λ t. strength_from (get_or t 1 0)) bytes ∙ strength-back jt.strength in
    let parts = age-parts jt (decimal it.age) it.corrective it.crossing it.turned (omega (arith, k.1)) (ap (drop 3) bytes)
    (without-c it (omega (arith, h.1)) it.corrective) (without-x it (omega (arith, h.1)) it.crossing) (without-r it (omega (arith, h.1)) it.turned) in
    let age = decimal_injective it.age jt.age (omega (arith, h.1)) (omega (arith, k.1)) parts.age in
    ap Ra (intent-same it jt sense strength age parts.turned parts.crossing parts.corrective)

pub cells-same : (cs ds : List Cell) → AllByRecursion IsCell cs → AllByRecursion IsCell ds → map cell_text cs ≡ map cell_text ds → cs ≡ ds
cells-same [] [] h k e = refl
cells-same [] (d ∷ ds) h k e = absurd (omega (arith, ap length e))
cells-same (c ∷ cs) [] h k e = absurd (omega (arith, ap length e))
cells-same (c ∷ cs) (d ∷ ds) h k e =
    let one = cell-same c d h.0 k.0 (ap (λ t. get_or t 0 []) e) in
    let rest = cells-same cs ds h.1 k.1 (ap (drop 1) e) in
    ap (λ x. x ∷ cs) one ∙ ap (λ t. d ∷ t) rest

pub lists-same : (count own own2 : ℕ) (c d : Cells) → AreCells count own c → AreCells count own2 d → map cell_text (take count c.list) ≡ map cell_text (take count d.list) → c ≡ d
lists-same count own own2 c d h k e =
    let front = cells-same (take count c.list) (take count d.list) (recursion_from_All IsCell (take count c.list) (All-take IsCell count c.list h.each)) (recursion_from_All IsCell (take count d.list) (All-take IsCell count d.list k.each)) e in
    let back = h.past ∙ sym k.past in
    let all = sym (take-append-drop count c.list) ∙ ap (λ t. t ++ drop count c.list) front ∙ ap (λ t. take count d.list ++ t) back ∙ take-append-drop count d.list in
    ap (λ (l : List Cell). let r : Cells = record { list = l } in r) all

outcome-back : (good : Bool) → outcome good ≡ codes "g" → good ≡ true
outcome-back true e = refl
outcome-back false e = absurd (omega (arith, ap (λ t. get_or t 0 0) e))

outcome-same : (a b : Bool) → outcome a ≡ outcome b → a ≡ b
outcome-same true b e = sym (outcome-back b (sym e))
outcome-same false true e = outcome-back false e
outcome-same false false e = refl

hex-same : (k m n : ℕ) → m < 16 ^ k → n < 16 ^ k → hex k m ≡ hex k n → m ≡ n
hex-same k m n a b e = sym (digits-value-hex k m a) ∙ ap (digits_value 16) e ∙ digits-value-hex k n b

-- A field by its place.
abbrev at : ℕ → List (List ℕ) → List ℕ
at i fields = get_or fields i []

pub fields-same : (count : ℕ) (e f : Entry) → count ≤ CRAFTS → IsEntry count e → IsEntry count f → entry_fields count e ≡ entry_fields count f → e ≡ f
fields-same count (Commit own cycle cells) (Commit own2 cycle2 cells2) few h k e =
    let a = decimal_injective own own2 (omega (arith, h.0)) (omega (arith, k.0)) (ap (at 1) e) in
    let b = decimal_injective cycle cycle2 (omega (arith, h.1.1)) (omega (arith, k.1.1)) (ap (at 2) e) in
    let c = lists-same count own own2 cells cells2 h.2 k.2 (ap (drop 3) e) in
    rw (a, b, c) refl
fields-same count (Send own target number word) (Send own2 target2 number2 word2) few h k e =
    let a = decimal_injective own own2 (omega (arith, h.0)) (omega (arith, k.0)) (ap (at 1) e) in
    let b = decimal_injective target target2 (omega (arith, h.1)) (omega (arith, k.1)) (ap (at 2) e) in
    let c = decimal_injective number number2 (omega (arith, h.2.1)) (omega (arith, k.2.1)) (ap (at 3) e) in
    let d = hex-same 14 word word2 (omega (arith, h.3)) (omega (arith, k.3)) (ap (at 4) e) in
    rw (a, b, c, d) refl
fields-same count (Take own send copy good) (Take own2 send2 copy2 good2) few h k e =
    let a = decimal_injective own own2 (omega (arith, h.0)) (omega (arith, k.0)) (ap (at 1) e) in
    let b = decimal_injective send send2 (omega (arith, h.1)) (omega (arith, k.1)) (ap (at 2) e) in
    let c = decimal_injective copy copy2 (omega (arith, h.2)) (omega (arith, k.2)) (ap (at 3) e) in
    let d = outcome-same good good2 (ap (at 4) e) in
    rw (a, b, c, d) refl
fields-same count (Commit own cycle cells) (Send own2 target number word) few h k e = absurd (omega (arith, ap (λ t. get_or (at 0 t) 0 0) e))
fields-same count (Commit own cycle cells) (Take own2 send copy good) few h k e = absurd (omega (arith, ap (λ t. get_or (at 0 t) 0 0) e))
fields-same count (Send own target number word) (Commit own2 cycle cells) few h k e = absurd (omega (arith, ap (λ t. get_or (at 0 t) 0 0) e))
fields-same count (Send own target number word) (Take own2 send copy good) few h k e = absurd (omega (arith, ap (λ t. get_or (at 0 t) 0 0) e))
fields-same count (Take own send copy good) (Commit own2 cycle cells) few h k e = absurd (omega (arith, ap (λ t. get_or (at 0 t) 0 0) e))
fields-same count (Take own send copy good) (Send own2 target number word) few h k e = absurd (omega (arith, ap (λ t. get_or (at 0 t) 0 0) e))

-- The fields of an entry's line are its fields.
pub line-fields : (count : ℕ) (e : Entry) → count ≤ CRAFTS → IsEntry count e → fields_of (join_with_byte 44 (entry_fields count e)) ≡ entry_fields count e
line-fields count (Commit own cycle cells) few h = split-joined _ _ (each-lacks 44 (entry_fields count (Commit own cycle cells)) (omega arith) (high-fields count (Commit own cycle cells) few h))
line-fields count (Send own target number word) few h = split-joined _ _ (each-lacks 44 (entry_fields count (Send own target number word)) (omega arith) (high-fields count (Send own target number word) few h))
line-fields count (Take own send copy good) few h = split-joined _ _ (each-lacks 44 (entry_fields count (Take own send copy good)) (omega arith) (high-fields count (Take own send copy good) few h))

-- A line determines its entry.
pub line-same : (count : ℕ) (e f : Entry) → count ≤ CRAFTS → IsEntry count e → IsEntry count f → entry_line count e ≡ entry_line count f → e ≡ f
line-same count e f few h k same =
    let body = append_cancel_right (join_with_byte 44 (entry_fields count e)) (join_with_byte 44 (entry_fields count f)) (10 ∷ []) same in
    fields-same count e f few h k (sym (line-fields count e few h) ∙ ap fields_of body ∙ line-fields count f few k)
