use Rattle.std.proofs.Common.{◌≡◌, ℕ, length, sym, ap, ◌∙◌, subst}
use Rattle.acas_base.specs.Encounter.{Parts}
use Rattle.craft_view.specs.Views.{SayNothingFrom}
use Rattle.craft_view.proofs.Past.{past-picture}
use Rattle.craft_view.proofs.surveillance.Surveillance.look_after.Goals as goal

pub invariant_of-self-in-Some : goal.invariant_of-self-in-Some
invariant_of-self-in-Some c =
    let picture = c.look_into.new.picture in
    let count : length c.crafts-count.result.now ≡ length c.args.places.now.encounter.crafts =
    ap length c.crafts-count.ensures.value ∙ ap (λ (e : Parts). length e.crafts) c.encounter.ensures in
    record { rest = subst (λ (n : ℕ). SayNothingFrom n picture.views) (sym count) (past-picture _ _ _ _ picture c.look_into.ensures.picture) }
