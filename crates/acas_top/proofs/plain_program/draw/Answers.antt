use Rattle.std.proofs.Common.{List, ℕ, refl, subst}
use Rattle.std.proofs.lemmas.List.{append-nil}
use Rattle.acas_top.proofs.Endings.{put-ends, unread-ends}
use Rattle.acas_top.specs.Answers.{IsWrong, verdict_line}
use Rattle.acas_top.specs.Commands.{OfPicture}
use Rattle.acas_top.specs.Drawing.{IsDrawable}
use Rattle.acas_top.specs.Given.{answer_text}
use Rattle.acas_top.specs.Telling.{Draws}
use Rattle.acas_top.specs.declared.answers.Answer.TheVariants.{Judged as JudgedAnswer}
use Rattle.acas_top.specs.declared.drawing.Drawable.{Drawable}
use Rattle.acas_top.specs.declared.drawing.Drawable.TheVariants as drawables
use Rattle.acas_top.specs.declared.status.Status.TheVariants as statuses
use Rattle.picture.specs.Picture.{picture_text}
use Rattle.rec_audit.specs.Judging.{IsRecordingOf, Judged}
use Rattle.rec_audit.specs.declared.verdict.Verdict.TheVariants as verdicts
use Rattle.acas_top.proofs.plain_program.draw.Goals as goal

pub returns-in-Ok-Legal : goal.returns-in-Ok-Legal
returns-in-Ok-Legal g c =
    let labels = c.in-Some.labels in
    let said = c.in-Some.ensures.some in
    let bytes = c.in-Ok.bytes.items in
    let state = c.in-Ok-Legal.deliveries in
    let text = picture_text labels state.encounter state.journal in
    let drawn : IsDrawable c.as_slice.result.now (drawables.Legal state) = subst (λ (d : Drawable). IsDrawable c.as_slice.result.now d) c.in-Ok-Legal.field-0-is c.in-Ok-Legal.ensures in
    let recording : IsRecordingOf bytes state = subst (λ (b : List ℕ). IsRecordingOf b state) c.as_slice.ensures.value drawn in
    let answers : Draws labels bytes text = record { state = state; recording = recording; text_is = refl } in
    put-ends (OfPicture labels) bytes text statuses.Done c.write_picture.result said tt (λ none. none labels said) c.in-Ok.ensures.untouched c.in-Ok.ensures.read c.in-Ok.ensures.no_fault answers c.write_picture.ensures

pub returns-in-Ok-Wrong : goal.returns-in-Ok-Wrong
returns-in-Ok-Wrong g c =
    let labels = c.in-Some.labels in
    let said = c.in-Some.ensures.some in
    let bytes = c.in-Ok.bytes.items in
    let line = c.in-Ok-Wrong.line in
    let reason = c.in-Ok-Wrong.reason in
    let text = answer_text (JudgedAnswer (verdicts.Wrong line reason)) in
    let drawn : IsDrawable c.as_slice.result.now (drawables.Wrong line reason) = subst (λ (d : Drawable). IsDrawable c.as_slice.result.now d) c.in-Ok-Wrong.field-0-is c.in-Ok-Wrong.ensures in
    let judged : Judged bytes (verdicts.Wrong line reason) = subst (λ (b : List ℕ). Judged b (verdicts.Wrong line reason)) c.as_slice.ensures.value drawn in
    let answers : IsWrong bytes text = record { line = line; reason = reason; is = judged; text_is = append-nil (verdict_line (verdicts.Wrong line reason)) } in
    put-ends (OfPicture labels) bytes text statuses.Wrong c.put_answer.result said tt (λ none. none labels said) c.in-Ok.ensures.untouched c.in-Ok.ensures.read c.in-Ok.ensures.no_fault answers c.put_answer.ensures

pub returns : goal.returns
returns g c =
    let labels = c.in-Some.labels in
    let said = c.in-Some.ensures.some in
    unread-ends (OfPicture labels) c.in-Err.status said (λ none. none labels said) c.in-Err.ensures.untouched c.in-Err.ensures.unread
