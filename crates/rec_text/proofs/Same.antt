-- Equal recordings are of equal encounters and equal journals.
use Rattle.std.proofs.Common.{◌≡◌, ℕ, ◌≤◌, ◌<◌, ◌^◌, List, [], ◌∷◌, ◌++◌, drop, get_or, length, map, reverse, take, refl, sym, ap, ap₂, ◌∙◌, subst, arith}
use Rattle.std.specs.Fmt.{decimal}
use Rattle.std.specs.List.{AllByRecursion}
use Rattle.std.proofs.Math.Seq.{take-append_seam}
use Rattle.std.proofs.lemmas.Fmt.{decimal_injective}
use Rattle.std.proofs.lemmas.List.{append_assoc, append_cancel_right, length-map, length-reverse, reverse-reverse}
use Rattle.std.proofs.lemmas.List.Elements.{recursion_from_All}
use Rattle.acas_base.specs.Encounter.{IsEncounter, Parts}
use Rattle.acas_base.specs.declared.TheConstants.{CRAFTS}
use Rattle.acas_base.specs.declared.entry.Entry.{Entry}
use Rattle.acas_lines.proofs.Splitting.{split-joined}
use Rattle.acas_lines.specs.Split.{lines_of}
use Rattle.acas_lines.specs.Lines.{joined}
use Rattle.air_journal.proofs.Bounds.{few-crafts}
use Rattle.air_journal.proofs.WellFormed.{entries-fit}
use Rattle.air_journal.specs.Airs.{air_of}
use Rattle.air_journal.specs.Ranges.{IsEntry}
use Rattle.air_rules.specs.Rules.{IsLegal}
use Rattle.enc_file.specs.Canonical.{canonical_lines, canonical_text}
use Rattle.enc_file.specs.Reading.{Says, reading_of}
use Rattle.rec_text.proofs.Ends.{EndsOnce, canonical-ends, end_line, first-end}
use Rattle.rec_text.proofs.OneEntry.{line-same}
use Rattle.rec_text.proofs.Putting.{all-back}
use Rattle.rec_text.proofs.Whole.{few-entries, recording-whole}
use Rattle.rec_text.specs.Entries.{entry_line, entry_lines}
use Rattle.rec_text.specs.Recording.{closing_lines, journal_line, recording, recording_lines}

-- An encounter that its canonical text says, and a legal journal of it.
pub record IsTold (e : Parts) (journal : List Entry) : Type 0 where
  pub valid : IsEncounter e
  pub says : Says (canonical_text e) e
  pub legal : IsLegal (air_of e) journal

-- The lines after those of the encounter.
abbrev later : Parts → List Entry → List (List ℕ)
later e journal = journal_line (length journal) ∷ (entry_lines (length e.crafts) journal ++ closing_lines e journal)

lines-same : (e f : Parts) (journal other : List Entry) → IsTold e journal → IsTold f other → recording e journal ≡ recording f other → recording_lines e journal ≡ recording_lines f other
lines-same e f journal other h k same =
    sym (split-joined (recording_lines e journal) (recording-whole e journal h.valid h.legal)) ∙ ap lines_of same ∙ split-joined (recording_lines f other) (recording-whole f other k.valid k.legal)

parts-same : (e f : Parts) (journal other : List Entry) → recording_lines e journal ≡ recording_lines f other → (canonical_lines e ≡ canonical_lines f) × (later e journal ≡ later f other)
parts-same e f journal other same =
    let one = canonical-ends e in
    let two = canonical-ends f in
    let split : (g : Parts) (K : List Entry) (once : EndsOnce (canonical_lines g)) → canonical_lines g ++ later g K ≡ once.front ++ end_line ∷ later g K =
    λ g K once. ap (λ lines. lines ++ later g K) once.is ∙ append_assoc once.front (end_line ∷ []) (later g K) in
    let both = first-end one.front two.front (later e journal) (later f other) one.others two.others (sym (split e journal one) ∙ ap (drop 1) same ∙ split f other two) in
    (one.is ∙ ap (λ lines. lines ++ end_line ∷ []) both.0 ∙ sym two.is, both.1)

encounters-same : (e f : Parts) → Says (canonical_text e) e → Says (canonical_text f) f → canonical_lines e ≡ canonical_lines f → e ≡ f
encounters-same e f h k same = let both = sym h ∙ ap (λ lines. reading_of (joined lines)) same ∙ k in cc

pub encounter-same : (e f : Parts) (journal other : List Entry) → IsTold e journal → IsTold f other → recording e journal ≡ recording f other → e ≡ f
encounter-same e f journal other h k same = encounters-same e f h.says k.says (parts-same e f journal other (lines-same e f journal other h k same)).0

-- ---- the journal

counts-same : (m n : ℕ) → m < 2 ^ 64 → n < 2 ^ 64 → journal_line m ≡ journal_line n → m ≡ n
counts-same m n h k e = decimal_injective m n h k (append_cancel_right (decimal m) (decimal n) (10 ∷ []) (ap (drop 8) e))

entries-same : (count : ℕ) (xs ys : List Entry) → count ≤ CRAFTS → AllByRecursion (IsEntry count) xs → AllByRecursion (IsEntry count) ys → map (entry_line count) xs ≡ map (entry_line count) ys → xs ≡ ys
entries-same count [] [] few h k e = refl
entries-same count [] (y ∷ ys) few h k e = absurd (omega (arith, ap length e))
entries-same count (x ∷ xs) [] few h k e = absurd (omega (arith, ap length e))
entries-same count (x ∷ xs) (y ∷ ys) few h k e =
    ap₂ (λ (z : Entry) (zs : List Entry). z ∷ zs) (line-same count x y few h.0 k.0 (ap (λ t. get_or t 0 []) e)) (entries-same count xs ys few h.1 k.1 (ap (drop 1) e))

-- Lists of one length, with something after each.
fronts-same : (xs ys r s : List (List ℕ)) → length xs ≡ length ys → xs ++ r ≡ ys ++ s → xs ≡ ys
fronts-same xs ys r s long e = sym (take-append_seam xs r) ∙ ap (take (length xs)) e ∙ ap (λ n. take n (ys ++ s)) long ∙ take-append_seam ys s

long : (count : ℕ) (journal : List Entry) → length (entry_lines count journal) ≡ length journal
long count journal = length-map (reverse journal) (entry_line count) ∙ length-reverse journal

-- In one encounter.
later-same : (e : Parts) (journal other : List Entry) → IsEncounter e → IsLegal (air_of e) journal → IsLegal (air_of e) other → later e journal ≡ later e other → journal ≡ other
later-same e journal other valid h k same =
    let n = length e.crafts in
    let count = counts-same (length journal) (length other) (few-entries e journal valid h) (few-entries e other valid k) (ap (λ t. get_or t 0 []) same) in
    let lines = fronts-same (entry_lines n journal) (entry_lines n other) (closing_lines e journal) (closing_lines e other) (long n journal ∙ count ∙ sym (long n other)) (ap (drop 1) same) in
    let fit : (K : List Entry) → IsLegal (air_of e) K → AllByRecursion (IsEntry n) (reverse K) = λ K l. recursion_from_All (IsEntry n) (reverse K) (all-back (IsEntry n) K (entries-fit e K valid l)) in
    sym (reverse-reverse journal) ∙ ap reverse (entries-same n (reverse journal) (reverse other) (few-crafts e valid) (fit journal h) (fit other k) lines) ∙ reverse-reverse other

pub journal-same : (e f : Parts) (journal other : List Entry) → IsTold e journal → IsTold f other → recording e journal ≡ recording f other → journal ≡ other
journal-same e f journal other h k same =
    let one = encounter-same e f journal other h k same in
    let rest = (parts-same e f journal other (lines-same e f journal other h k same)).1 in
    later-same e journal other h.valid h.legal (subst (λ (g : Parts). IsLegal (air_of g) other) (sym one) k.legal) (subst (λ (g : Parts). later e journal ≡ later g other) (sym one) rest)
