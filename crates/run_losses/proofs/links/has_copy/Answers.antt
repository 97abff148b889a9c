use Rattle.std.proofs.Common.{length, ap, ◌∙◌, not, eqb}
use Rattle.acas_base.specs.Fates.{copies_of}
use Rattle.acas_base.specs.declared.link.Fate.{Fate}
use Rattle.run_losses.proofs.Adding.{has-one}
use Rattle.run_losses.proofs.links.has_copy.Goals as goal

pub returns : goal.returns
returns c =
    has-one c.fate.result.copies c.fate.result.first c.fate.result.second c.fate.result.third
    ∙ ap (λ (fate : Fate). not (eqb (length (copies_of fate)) 0)) c.fate.ensures
