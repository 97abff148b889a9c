use Rattle.std.proofs.Common.{◌∙◌, ap, sym, ◌∷◌, take}
use Rattle.fault_text.specs.Lines.{fields_in, fields_left}
use Rattle.fault_text.proofs.FirstField.{field-all, field-at, rest-of}
use Rattle.fault_text.proofs.fields.Fields.next.Goals as goal

pub returns-in-Some : goal.returns-in-Some
returns-in-Some c =
    let text = c.in_ok-text.text.now in
    let at = c.in-Some.at in
    sym c.self.view_is ∙ ap fields_left c.in_ok-text.was
    ∙ field-at text at c.in-Some.ensures.0.high (λ k low below. c.in-Some.ensures.0.before k low below) c.in-Some.ensures.1
    ∙ rw (c.split_at.ensures.front, c.split_at.ensures.back) (ap (λ t. take at text ∷ fields_in t) (rest-of at text))

pub returns-in-None : goal.returns-in-None
returns-in-None c =
    sym c.self.view_is ∙ ap fields_left c.in_ok-text.was ∙ field-all c.in_ok-text.text.now (λ k low below. c.in-None.ensures k low below)
