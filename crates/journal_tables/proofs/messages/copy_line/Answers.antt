use Rattle.std.proofs.Common.{ℕ, List, [], ◌∷◌, ◌++◌, refl, ap, ◌∙◌}
use Rattle.std.specs.Fmt.{decimal}
use Rattle.journal_tables.proofs.Lines.{add-field, copy-fields}
use Rattle.journal_tables.proofs.messages.copy_line.Goals as goal

pub returns : goal.returns
returns c =
    let copy = add-field c.u16_field.ensures.added c.message_part-line.ensures.part (ap decimal c.from.ensures) in
    let hold = add-field c.u16_field-2.ensures.added copy (ap decimal c.from-2.ensures) in
    let take = add-field c.add_take_if_any.ensures.added hold refl in
    c.text.ensures.added ∙ ap (λ (l : List ℕ). l ++ 10 ∷ []) take ∙ copy-fields c.args.message.now c.args.copy c.args.plan c.args.take
