use Rattle.std.proofs.Common.{◌∙◌, w32, FitsSigned, rules}
use Rattle.track_file.proofs.Placed.{rounded-is}
use Rattle.track_file.proofs.track.rounded.Goals as goal

pub returns-clause-value : goal.returns-clause-value
returns-clause-value c =
    let fits : FitsSigned w32 c.time_of.result = search rules in
    c.rounded_between.ensures.value
    ∙ rounded-is c.args.points.now c.args.cycle c.time_of.result c.around.result.before c.around.result.after fits c.time_of.ensures.value c.around.ensures.before c.around.ensures.after
