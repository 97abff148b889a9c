use Rattle.std.proofs.Common.{◌≡◌, ◌≤◌, ◌∙◌, ap, arith, refl}
use Rattle.variants.proofs.One.{answered-by, is-lossy}
use Rattle.variants.specs.Losses.{with_losses}
use Rattle.variants.specs.Made.{with_parts}
use Rattle.variants.specs.declared.change.Change.TheVariants.{Lost}
use Rattle.variants.proofs.losses.lossy.Goals as goal

pub returns : goal.returns
returns c =
    let e = c.args.encounter.now in
    let loss = c.args.loss in
    let order : loss.first ≤ loss.last = omega (arith, c.if-loss.false) in
    let crafts : c.in_ok-from_slice.field-0.items ≡ e.crafts = c.in_ok-from_slice.ensures.items ∙ c.crafts.ensures.value in
    let legs : c.in_ok-from_slice-2.field-0.items ≡ e.legs = c.in_ok-from_slice-2.ensures.items ∙ c.legs.ensures.value in
    let fates : c.in_ok-with_losses.field-0.items ≡ with_losses loss e.fates = c.in_ok-with_losses.ensures ∙ ap (with_losses loss) c.fates.ensures.value in
    answered-by e (Lost loss) (with_parts e c.in_ok-from_slice.field-0.items c.in_ok-from_slice-2.field-0.items c.in_ok-with_losses.field-0.items) c.made_inside.result
    (rw (crafts, legs, fates) refl) (is-lossy e loss order) c.made_inside.ensures
