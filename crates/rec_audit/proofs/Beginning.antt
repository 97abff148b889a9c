-- What stands before the entries.
use Rattle.std.proofs.Common.{◌≡◌, ℕ, ◌+◌, ◌-◌, ◌<◌, List, [], ◌∷◌, ◌++◌, length, take, refl, sym, ap, ◌∙◌, subst, arith, append_assoc, length-append}
use Rattle.std.specs.Prelude.{Err, Result}
use Rattle.std.proofs.Math.Seq.{take-append_seam}
use Rattle.std.proofs.lemmas.List.{append_cancel_left}
use Rattle.std.proofs.lemmas.List.Concat.{flat_map-append}
use Rattle.acas_base.specs.Encounter.{IsEncounter, Parts}
use Rattle.acas_lines.proofs.Splitting.{joined-split}
use Rattle.acas_lines.specs.Split.{lines_of}
use Rattle.acas_lines.specs.Lines.{joined}
use Rattle.enc_file.specs.Canonical.{canonical_lines}
use Rattle.enc_file.specs.Reading.{Explains, Says, reading_of}
use Rattle.enc_file.specs.declared.refusal.ReadError.{ReadError}
use Rattle.enc_file.specs.declared.refusal.ReadError.TheVariants.{Refused}
use Rattle.enc_file.specs.declared.refusal.Refusal.{Refusal}
use Rattle.flight.specs.Inside.{IsInside}
use Rattle.rec_audit.specs.Cursors.{Cursor, StoppedIn, Took}
use Rattle.rec_audit.specs.Engine.{ReadPart, SkippedPart}
use Rattle.rec_audit.specs.Opening.{HasNoEnd, IsCut, IsWrongAfterHead, IsWrongOpening, NoCount, end_line, no_count, no_end, not_canonical, refused, wrong_after_head, wrong_part}
use Rattle.rec_audit.specs.declared.verdict.Reason.{Reason}
use Rattle.rec_audit.specs.declared.verdict.Reason.TheVariants.{Encounter, Spelling}
use Rattle.rec_text.proofs.Ends.{canonical-ends, first-end}
use Rattle.rec_text.specs.Recording.{head_line}

pub joined-both : (xs ys : List (List ℕ)) → joined (xs ++ ys) ≡ joined xs ++ joined ys
joined-both xs ys = flat_map-append (λ line. line) xs ys

-- No line is an end.
pub without-end : (before after : Cursor) (number : ℕ) → before.taken ≡ 1 → HasNoEnd before.left × Took before after before.left → number ≡ after.taken + 1 → IsWrongAfterHead before.left number Spelling
without-end before after number second h is = subst (λ n. IsWrongAfterHead before.left n Spelling) (omega (arith, is, h.1.taken_is, second)) (no_end h.0)

-- The bytes of the lines up to the first end.
pub part-bytes : (before after : Cursor) (text rest : List ℕ) → (s : SkippedPart before after) → text ≡ joined before.left → rest ≡ joined after.left → take (length text - length rest) text ≡ joined s.part
part-bytes before after text rest s is more =
    let whole : text ≡ joined s.part ++ rest = is ∙ ap joined s.cut.all ∙ joined-both s.part after.left ∙ ap (λ t. joined s.part ++ t) (sym more) in
    let long : length text - length rest ≡ length (joined s.part) = omega (arith, ap length whole, length-append (joined s.part) rest) in
    ap (λ n. take n text) long ∙ ap (take (length (joined s.part))) whole ∙ take-append_seam (joined s.part) rest

-- What a refusal says.
pub refused-by : (reading : Result Parts Refusal) (error : ReadError) (refusal : Refusal) → error ≡ Refused refusal → Explains reading error → reading ≡ Err refusal
refused-by reading error refusal is h = subst (Explains reading) is h

pub part-refused : (before after : Cursor) (s : SkippedPart before after) (refusal : Refusal) → reading_of (joined s.part) ≡ Err refusal → IsWrongAfterHead before.left 2 (Encounter refusal.code)
part-refused before after s refusal e = wrong_part s.cut (refused refusal e)

-- Lines that go on with others can't be a front of them that stops.
pub part-other : (before after there : Cursor) (s : SkippedPart before after) (e : Parts) → Says (joined s.part) e → StoppedIn before there (canonical_lines e) → IsWrongAfterHead before.left 2 Spelling
part-other before after there s e says d = wrong_part s.cut (not_canonical e says (λ same.
    let goes : d.front ++ there.left ≡ d.front ++ (d.next ∷ d.later ++ after.left) =
    sym d.took.lines_are ∙ s.cut.all ∙ ap (λ t. t ++ after.left) (same ∙ d.lines_are) ∙ append_assoc d.front (d.next ∷ d.later) after.left in
    d.differs (d.later ++ after.left) (append_cancel_left d.front there.left (d.next ∷ d.later ++ after.left) goes)))

-- A canonical text ends where the part does.
pub part-same : (before after there : Cursor) (s : SkippedPart before after) (e : Parts) → Took before there (canonical_lines e) → s.part ≡ canonical_lines e
part-same before after there s e t =
    let ends = canonical-ends e in
    let mine : before.left ≡ s.cut.front ++ end_line ∷ after.left = s.cut.all ∙ ap (λ p. p ++ after.left) s.cut.part_is ∙ append_assoc s.cut.front (end_line ∷ []) after.left in
    let other : before.left ≡ ends.front ++ end_line ∷ there.left = t.lines_are ∙ ap (λ p. p ++ there.left) ends.is ∙ append_assoc ends.front (end_line ∷ []) there.left in
    let both = first-end s.cut.front ends.front after.left there.left s.cut.none ends.others (sym mine ∙ other) in
    s.cut.part_is ∙ ap (λ f. f ++ end_line ∷ []) both.0 ∙ sym ends.is

pub part-read : (before after there : Cursor) (s : SkippedPart before after) (e : Parts) → IsEncounter e → IsInside e → Says (joined s.part) e → Took before there (canonical_lines e) → ReadPart before e after
part-read before after there s e valid inside says t =
    let same = part-same before after there s e t in
    record {
      valid = valid;
      inside = inside;
      says = subst (λ p. Says (joined p) e) same says;
      cut = subst (λ p. IsCut before.left p after.left) same s.cut;
      took = subst (λ p. Took before after p) same s.took;
    }

-- ---- from the first line on

-- The lines after the first one are no longer than the text.
pub later-small : (bytes line : List ℕ) (before after : Cursor) → before.left ≡ lines_of bytes → Took before after (line ∷ []) → length (joined after.left) < 1 + length bytes
later-small bytes line before after is t =
    let whole : bytes ≡ line ++ joined after.left = sym (joined-split bytes) ∙ ap joined (sym is ∙ t.lines_are) in
    omega (arith, ap length whole, length-append line (joined after.left))

pub opening-wrong : (bytes : List ℕ) (before after : Cursor) (line : ℕ) (reason : Reason) → before.left ≡ lines_of bytes → Took before after (head_line ∷ []) → IsWrongAfterHead after.left line reason → IsWrongOpening (lines_of bytes) line reason
opening-wrong bytes before after line reason is t w = wrong_after_head (sym is ∙ t.lines_are) w

pub count-wrong : (bytes : List ℕ) (before middle after : Cursor) (e : Parts) (number : ℕ) → before.left ≡ lines_of bytes → before.taken ≡ 0 → Took before middle (head_line ∷ []) → ReadPart middle e after → NoCount after.left → number ≡ after.taken + 1 →
    IsWrongOpening (lines_of bytes) number Spelling
count-wrong bytes before middle after e number is first t p none at =
    let here : length (canonical_lines e) + 2 ≡ number = omega (arith, at, p.took.taken_is, t.taken_is, first) in
    subst (λ n. IsWrongOpening (lines_of bytes) n Spelling) here (wrong_after_head (sym is ∙ t.lines_are) (wrong_part p.cut (no_count e p.says refl none)))
