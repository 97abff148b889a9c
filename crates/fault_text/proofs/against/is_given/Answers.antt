use Rattle.std.proofs.Common.{◌∙◌, refl}
use Rattle.fault_text.proofs.AfterOthers.{kind-some, last-as}
use Rattle.fault_text.proofs.Repeats.{of-kind}
use Rattle.fault_text.proofs.against.is_given.Goals as goal

pub returns : goal.returns
returns c = λ earlier b.
    let sought = of-kind c.args.kind in
    c.is_some.ensures
    ∙ kind-some c.args.text.now c.args.at earlier c.args.kind c.last_before.result b (last-as c.args.text.now c.args.at sought sought c.last_before.result c.last_before.result refl refl c.last_before.ensures)
