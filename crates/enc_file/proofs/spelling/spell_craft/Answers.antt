use Rattle.std.proofs.Common.{◌∷◌, ◌++◌, ◌∙◌, ap, w32, FitsSigned, rules, append_assoc}
use Rattle.std.specs.Fmt.{signed_decimal}
use Rattle.std.proofs.lemmas.Int.{to_z-of_z}
use Rattle.enc_file.proofs.spelling.spell_craft.Goals as goal

pub returns : goal.returns
returns c =
    let craft = c.args.craft.now in
    let x_fits : FitsSigned w32 craft.x = search rules in
    let y_fits : FitsSigned w32 craft.y = search rules in
    let alt_fits : FitsSigned w32 craft.alt = search rules in
    let x = c.i32_field.ensures.added ∙ ap (λ z. c.text_field.new.self ++ 44 ∷ signed_decimal z) (to_z-of_z w32 craft.x x_fits) in
    let y = c.i32_field-2.ensures.added ∙ ap (λ z. c.i32_field.new.self ++ 44 ∷ signed_decimal z) (to_z-of_z w32 craft.y y_fits) in
    let alt = c.i32_field-3.ensures.added ∙ ap (λ z. c.i32_field-2.new.self ++ 44 ∷ signed_decimal z) (to_z-of_z w32 craft.alt alt_fits) in
    rw (c.text-2.ensures.added, alt, y, x, c.text_field.ensures.added, c.kind_name.ensures.name, c.address_field.ensures.added, c.value.ensures.value, c.text.ensures.added, c.requires) (simp append_assoc)
