use Rattle.std.proofs.Common.{◌<◌, ◌∙◌, arith}
use Rattle.acas_base.specs.declared.TheConstants.{CRAFTS}
use Rattle.seconds_panel.proofs.Looking.{few, motion-is}
use Rattle.seconds_panel.proofs.seconds.motion_in.Goals as goal

pub returns-clause-value : goal.returns-clause-value
returns-clause-value c =
    let e = c.args.encounter.now in
    let most = few e c.valid_law.ensures in
    let other = c.requires.other in
    let within : c.args.other < CRAFTS = omega (arith, most, other) in
    c.motion_of.ensures.value ∙ motion-is e c.args.craft.now c.args.other c.requires.belongs within
