use Rattle.std.proofs.Common.{◌∷◌, ◌++◌, ◌∙◌, ap, w32, FitsSigned, rules, append_assoc}
use Rattle.std.specs.Fmt.{signed_decimal}
use Rattle.std.proofs.lemmas.Int.{to_z-of_z}
use Rattle.enc_file.proofs.spelling.spell_leg.Goals as goal

pub returns : goal.returns
returns c =
    let leg = c.args.leg.now in
    let vx_fits : FitsSigned w32 leg.vx = search rules in
    let vy_fits : FitsSigned w32 leg.vy = search rules in
    let vz_fits : FitsSigned w32 leg.vz = search rules in
    let vx = c.i32_field.ensures.added ∙ ap (λ z. c.u16_field.new.self ++ 44 ∷ signed_decimal z) (to_z-of_z w32 leg.vx vx_fits) in
    let vy = c.i32_field-2.ensures.added ∙ ap (λ z. c.i32_field.new.self ++ 44 ∷ signed_decimal z) (to_z-of_z w32 leg.vy vy_fits) in
    let vz = c.i32_field-3.ensures.added ∙ ap (λ z. c.i32_field-2.new.self ++ 44 ∷ signed_decimal z) (to_z-of_z w32 leg.vz vz_fits) in
    rw (c.text-2.ensures.added, vz, vy, vx, c.u16_field.ensures.added, c.address_field.ensures.added, c.address_in.ensures.value, c.text.ensures.added, c.requires) (simp append_assoc)
