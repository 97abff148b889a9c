use Rattle.std.proofs.Common.{rules, ◌≡◌, ℕ, List, [], ◌∷◌, ◌++◌, w32, w64, FitsSigned, refl, ap, ◌∙◌}
use Rattle.std.proofs.lemmas.Int.{to_z-of_z}
use Rattle.std.specs.Fmt.{decimal, signed_decimal}
use Rattle.acas_text.specs.Fields.{if_any, with_point}
use Rattle.acas_text.specs.Hex.{hex}
use Rattle.journal_tables.specs.Fields.{planned_tenths}
use Rattle.journal_tables.proofs.Lines.{add-field, seven-fields}
use Rattle.journal_tables.proofs.places.place_line.Goals as goal

pub returns : goal.returns
returns c =
    let place = c.args.place.now in
    let x_fits : FitsSigned w32 c.feet.result = search rules in
    let y_fits : FitsSigned w32 c.feet-2.result = search rules in
    let z_fits : FitsSigned w32 c.planned_tenths.result = search rules in
    let cycle : c.u16.new.self ≡ decimal c.args.cycle = c.u16.ensures.added ∙ ap (λ (l : List ℕ). l ++ decimal c.args.cycle) c.new-line.ensures in
    let address = add-field c.address_field.ensures.added cycle (ap (hex 6) c.value.ensures.value) in
    let x = add-field c.i32_field.ensures.added address (ap signed_decimal (to_z-of_z w32 c.feet.result x_fits ∙ c.feet.ensures ∙ to_z-of_z w64 place.x (search rules))) in
    let y = add-field c.i32_field-2.ensures.added x (ap signed_decimal (to_z-of_z w32 c.feet-2.result y_fits ∙ c.feet-2.ensures ∙ to_z-of_z w64 place.y (search rules))) in
    let z = add-field c.tenths_field.ensures.added y (ap with_point (to_z-of_z w32 c.planned_tenths.result z_fits ∙ c.planned_tenths.ensures ∙ ap planned_tenths (to_z-of_z w64 place.z (search rules)))) in
    let modelled = add-field c.tenths_field_if_any.ensures.added z refl in
    let word = add-field c.text_field.ensures.added modelled refl in
    c.text.ensures.added ∙ ap (λ (l : List ℕ). l ++ 10 ∷ []) word
    ∙ seven-fields (decimal c.args.cycle) (hex 6 c.args.address) (signed_decimal place.x) (signed_decimal place.y) (with_point (planned_tenths place.z)) (if_any with_point c.args.modelled) c.args.word.now
