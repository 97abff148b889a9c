use Rattle.std.proofs.Common.{◌∙◌, ap, sym, ◌+◌, ◌∷◌, take}
use Rattle.std.proofs.lemmas.List.{take_rest}
use Rattle.rec_audit.specs.Fields.{fields_left, fields_of}
use Rattle.rec_text.proofs.Splits.{first_field, only_field}
use Rattle.rec_audit.proofs.fields.Fields.next.Goals as goal

pub returns-in-Some : goal.returns-in-Some
returns-in-Some c =
    let text = c.in_ok-text.text.now in
    let at = c.in-Some.at in
    sym c.self.view_is ∙ ap fields_left c.in_ok-text.was
    ∙ first_field text at c.in-Some.ensures.0.high (λ k low below. c.in-Some.ensures.0.before k low below) c.in-Some.ensures.1
    ∙ ap (λ t. take at text ∷ fields_of t) (sym (take_rest text (at + 1)))

pub returns-in-None : goal.returns-in-None
returns-in-None c =
    sym c.self.view_is ∙ ap fields_left c.in_ok-text.was ∙ only_field c.in_ok-text.text.now (λ k low below. c.in-None.ensures k low below)
