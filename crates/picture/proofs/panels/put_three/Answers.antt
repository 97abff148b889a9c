use Rattle.std.proofs.Common.{◌∙◌, ap₂}
use Rattle.picture.specs.Panels.{told_pair}
use Rattle.picture.proofs.panels.put_three.Goals as goal

pub returns : goal.returns
returns g c =
    let told = c.told_pair-tested.ensures ∙ ap₂ told_pair c.profile.ensures c.own_of-either.ensures.value in
    let tested = rw told at c.put_tested.ensures in
    g.met.D.Drawing.then _ _ _ _ _ c.put_both.ensures tested
