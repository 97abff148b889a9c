use Rattle.std.proofs.Common.{◌∙◌, rules, w32}
use Rattle.std.proofs.lemmas.Int.{to_z-of_z}
use Rattle.flight.specs.Measurement.{own_altitude}
use Rattle.sens_table.proofs.Runs.{after-none, after-some}
use Rattle.sens_table.proofs.above.Above.go_on.Goals as goal

pub returns-then-cycle-eq0 : goal.returns-then-cycle-eq0
returns-then-cycle-eq0 c craft is at =
    let e = c.args.encounter.now in
    let altitude = to_z-of_z w32 c.args.altitude c.ranges.altitude in
    let elevation = to_z-of_z w32 c.ground.result (search rules) ∙ c.ground.ensures.value in
    after-none e.profile e.elevation (own_altitude e craft) c.args.cycle c.first.result c.args.altitude (search rules) at (rw (altitude, elevation) at c.first.ensures e.profile)

pub returns-else-cycle-eq0 : goal.returns-else-cycle-eq0
returns-else-cycle-eq0 c craft is at =
    let e = c.args.encounter.now in
    let altitude = to_z-of_z w32 c.args.altitude c.ranges.altitude in
    let elevation = to_z-of_z w32 c.ground-else-cycle-eq0.result (search rules) ∙ c.ground-else-cycle-eq0.ensures.value in
    after-some e.profile e.elevation (own_altitude e craft) c.args.cycle c.args.self c.next.result c.args.altitude (search rules) is at (rw (altitude, elevation, c.profile.ensures) at c.next.ensures.above)
