use Rattle.std.proofs.Common.{Some, ◌∙◌, ap, rules, w32}
use Rattle.std.proofs.lemmas.Int.{to_z-of_z}
use Rattle.craft_view.specs.Own.{resolution_row}
use Rattle.craft_view.proofs.own.own_at.Goals as goal

pub returns-clause-value : goal.returns-clause-value
returns-clause-value c =
    let altitude = to_z-of_z w32 c.args.altitude c.ranges.altitude in
    let elevation = to_z-of_z w32 c.args.elevation c.ranges.elevation in
    let level = c.level-level.ensures.value in
    let resolution = c.resolution_row.ensures.value ∙ ap (resolution_row (Some c.args.spec.now.kind)) level in
    let climbs = rw altitude at c.may_climb.ensures in
    let height = to_z-of_z w32 c.height_over.result (search rules) ∙ (rw (altitude, elevation) at c.height_over.ensures) in
    λ i. record {
      profile = c.args.profile;
      level = level i;
      resolution = resolution i;
      climbs = climbs i;
      descends = c.args.above.descends;
      descends_faster = c.args.above.descends_faster;
      height = height i;
    }
