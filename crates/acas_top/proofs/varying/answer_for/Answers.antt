use Rattle.std.proofs.Common.{◌≡◌, ◌∙◌, ℕ, List, None, Some, ap, refl, subst, sym}
use Rattle.std.specs.Prelude.{IfOk, if◌then◌else◌, is_none, unwrap_or}
use Rattle.acas_base.specs.Encounter.{Parts}
use Rattle.acas_top.proofs.Variations.{variation-answers}
use Rattle.acas_top.specs.Answers.{AnswersPlain}
use Rattle.acas_top.specs.Given.{answer_status, answer_text}
use Rattle.acas_top.specs.Varying.{index_of}
use Rattle.acas_top.specs.declared.words.Plain.TheVariants.{Vary}
use Rattle.enc_file.specs.Reading.{Says}
use Rattle.run_losses.specs.Losses.{losses_of}
use Rattle.variants.specs.Rows.{exchanges_of, shifts_of}
use Rattle.variation_words.specs.declared.variation.Variation.{Variation}
use Rattle.variation_words.specs.declared.variation.Variation.TheVariants.{Exchanges, Losses, Shifts}
use Rattle.acas_top.proofs.varying.answer_for.Goals as goal

pub returns-in_ok-serial_state-in-Some : goal.returns-in_ok-serial_state-in-Some
returns-in_ok-serial_state-in-Some g c =
    let e = c.args.encounter.now in
    let q = c.in-Shifts.quantity in
    let a = c.in-Shifts.address in
    let values = c.in-Shifts.values in
    let state = c.in_ok-serial_state-in-Some.field-0 in
    let found : index_of e.crafts a ≡ Some c.in-Some.craft = sym (ap (λ crafts. index_of crafts a) c.crafts.ensures.value) ∙ sym c.index_of.ensures.value ∙ c.in-Some.is in
    let known = ap (λ o. if is_none o then Some a else None) found in
    let row = ap (λ o. shifts_of q (unwrap_or o 0) values) (sym found) in
    subst (λ (v : Variation). IfOk c.answer_shifts.result (λ answer. (bytes : List ℕ) → Says bytes e → AnswersPlain (Vary v) bytes (answer_status answer) (answer_text answer))) (sym c.in-Shifts.is)
    (variation-answers (Shifts q a values) e state (λ d. shifts_of q c.in-Some.craft values) c.answer_shifts.result c.in_ok-serial_state-in-Some.ensures.encounter c.in_ok-serial_state-in-Some.ensures.serial known row c.answer_shifts.ensures)

pub returns-in_ok-serial_state-in-Losses : goal.returns-in_ok-serial_state-in-Losses
returns-in_ok-serial_state-in-Losses g c =
    let e = c.args.encounter.now in
    let state = c.in_ok-serial_state-in-Losses.field-0 in
    subst (λ (v : Variation). IfOk c.answer_losses.result (λ answer. (bytes : List ℕ) → Says bytes e → AnswersPlain (Vary v) bytes (answer_status answer) (answer_text answer))) (sym c.in-Losses.is)
    (variation-answers Losses e state (λ d. losses_of d state.journal) c.answer_losses.result c.in_ok-serial_state-in-Losses.ensures.encounter c.in_ok-serial_state-in-Losses.ensures.serial refl refl c.answer_losses.ensures)

pub returns-in_ok-serial_state-in-Exchanges : goal.returns-in_ok-serial_state-in-Exchanges
returns-in_ok-serial_state-in-Exchanges g c =
    let e = c.args.encounter.now in
    let state = c.in_ok-serial_state-in-Exchanges.field-0 in
    subst (λ (v : Variation). IfOk c.answer_exchanges.result (λ answer. (bytes : List ℕ) → Says bytes e → AnswersPlain (Vary v) bytes (answer_status answer) (answer_text answer))) (sym c.in-Exchanges.is)
    (variation-answers Exchanges e state (λ (d : Parts). exchanges_of d.crafts) c.answer_exchanges.result c.in_ok-serial_state-in-Exchanges.ensures.encounter c.in_ok-serial_state-in-Exchanges.ensures.serial refl refl c.answer_exchanges.ensures)
