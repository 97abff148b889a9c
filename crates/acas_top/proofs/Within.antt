-- The line that is told of a wrong recording is one of its lines, or the next one after them.
use Rattle.std.proofs.Common.{◌≡◌, ℕ, ◌+◌, ◌≤◌, List, ◌∷◌, length, length-append, take, reverse, sym, ap, ◌∙◌, arith, inl, inr}
use Rattle.std.proofs.lemmas.Bool.{cases_lt}
use Rattle.std.proofs.lemmas.List.{length-map, length-reverse, length-take, take_all}
use Rattle.std.proofs.lemmas.Option.{slice_get_past}
use Rattle.std.specs.Prelude.{min}
use Rattle.acas_base.specs.Encounter.{Parts}
use Rattle.acas_base.specs.declared.entry.Entry.{Entry}
use Rattle.air_journal.specs.Airs.{air_of}
use Rattle.air_rules.specs.Air.{Air}
use Rattle.enc_file.specs.Canonical.{canonical_lines}
use Rattle.acas_lines.specs.Differing.{DifferAt}
use Rattle.rec_audit.specs.Judging.{IsWrong, IsWrongAfter, after_opening, at_opening, incomplete, other_end, too_few, wrong_entry}
use Rattle.rec_audit.specs.Opening.{IsCut, IsWrongAfterHead, IsWrongOpening, IsWrongPart, Opens, no_count, no_end, no_head, not_canonical, refused, wrong_after_head, wrong_part}
use Rattle.rec_audit.specs.Replays.{Replays}
use Rattle.rec_audit.specs.declared.verdict.Reason.{Reason}
use Rattle.rec_text.specs.Entries.{entry_line, entry_lines}
use Rattle.rec_text.specs.Recording.{journal_line}

long : (count : ℕ) (journal : List Entry) → length (entry_lines count journal) ≡ length journal
long count journal = length-map (reverse journal) (entry_line count) ∙ length-reverse journal

replayed : (air : Air) (lines rest : List (List ℕ)) (journal : List Entry) → Replays air lines journal rest → length lines ≡ length journal + length rest
replayed air lines rest journal r = ap length r.begins ∙ length-append (entry_lines air.count journal) rest ∙ ap (λ n. n + length rest) (long air.count journal)

differ-within : (same : ℕ) (one two : List (List ℕ)) → DifferAt same one two → same ≤ length one
differ-within same one two d = elim (cases_lt (length one) same) [
  | inl past ↦ (
      let whole : take same one ≡ one = take_all same one (omega (arith, past)) in
      let short : length one ≡ min same (length two) = ap length (sym whole ∙ d.front) ∙ length-take same two in
      absurd (d.here (slice_get_past one same (omega (arith, past)) ∙ sym (slice_get_past two same (omega (arith, past, short))))))
  | inr within ↦ omega (arith, within)
]

opened : (e : Parts) (count : ℕ) (lines rest : List (List ℕ)) → Opens e count lines rest → length lines ≡ length (canonical_lines e) + length rest + 2
opened e count lines rest o =
    let all = ap length o.begins in
    let parts = length-append (canonical_lines e) (journal_line count ∷ rest) in
    omega (arith, all, parts)

after-within : (e : Parts) (count : ℕ) (lines rest : List (List ℕ)) (line : ℕ) (reason : Reason) → Opens e count lines rest → IsWrongAfter e count rest line reason → line ≤ length lines + 1
after-within e count lines rest line reason o (wrong_entry s before) =
    let here = replayed (air_of e) rest _ _ s.replays in
    omega (arith, opened e count lines rest o, here, s.after)
after-within e count lines rest line reason o (too_few r few) =
    let here = replayed (air_of e) rest _ _ r in
    omega (arith, opened e count lines rest o, here)
after-within e count lines rest line reason o (incomplete r is not) =
    let here = replayed (air_of e) rest _ _ r in
    omega (arith, opened e count lines rest o, here, is)
after-within e count lines rest line reason o (other_end r is whole differ) =
    let here = replayed (air_of e) rest _ _ r in
    omega (arith, opened e count lines rest o, here, is, differ-within _ _ _ differ)

part-within : (lines part rest : List (List ℕ)) (line : ℕ) (reason : Reason) → IsCut lines part rest → IsWrongPart part rest line reason → line ≤ length lines + 2
part-within lines part rest line reason cut (refused refusal is) = omega arith
part-within lines part rest line reason cut (not_canonical e says not) = omega arith
part-within lines part rest line reason cut (no_count e says is none) =
    let all = ap length cut.all ∙ length-append part rest in
    omega (arith, all)

head-within : (lines : List (List ℕ)) (line : ℕ) (reason : Reason) → IsWrongAfterHead lines line reason → line ≤ length lines + 2
head-within lines line reason (no_end none) = omega arith
head-within lines line reason (wrong_part cut part) = part-within lines _ _ line reason cut part

opening-within : (lines : List (List ℕ)) (line : ℕ) (reason : Reason) → IsWrongOpening lines line reason → line ≤ length lines + 1
opening-within lines line reason (no_head none) = omega arith
opening-within lines line reason (wrong_after_head is after) =
    let all = ap length is in
    omega (arith, all, head-within _ line reason after)

pub wrong-within : (lines : List (List ℕ)) (line : ℕ) (reason : Reason) → IsWrong lines line reason → line ≤ length lines + 1
wrong-within lines line reason (at_opening w) = opening-within lines line reason w
wrong-within lines line reason (after_opening o w) = after-within _ _ lines _ line reason o w
