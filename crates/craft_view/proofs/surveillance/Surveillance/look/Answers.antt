use Rattle.std.proofs.Common.{sym, ◌∙◌, subst}
use Rattle.acas_base.specs.declared.view.Picture.{Picture}
use Rattle.craft_view.specs.Looking.{LookedOn}
use Rattle.craft_view.proofs.Showing.{whole-picture}
use Rattle.craft_view.proofs.surveillance.Surveillance.look.Goals as goal

pub returns : goal.returns
returns c =
    let m = c.args.places.now in
    subst (λ (p : Picture). LookedOn m c.args.own c.args.self.now.crafts c.look_after.new.self.crafts p)
    (sym (c.look_after.ensures.picture ∙ whole-picture m.encounter c.args.own m.cycle)) c.look_after.ensures.looked
