use Rattle.std.proofs.Common.{◌∙◌, ap, rules}
use Rattle.sens_table.specs.Above.{above_after}
use Rattle.sens_table.proofs.Bounds.{above-more}
use Rattle.sens_table.proofs.above.Above.next.Goals as goal

pub returns-clause-next : goal.returns-clause-next
returns-clause-next c = search rules

pub returns-clause-above : goal.returns-clause-above
returns-clause-above c before earlier is =
    returns-clause-next c ∙ ap (λ above. above_after c.args.profile c.args.elevation above c.args.altitude) is ∙ above-more c.args.profile c.args.elevation c.args.altitude before earlier
