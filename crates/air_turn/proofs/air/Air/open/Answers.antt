use Rattle.std.proofs.Common.{rules, ◌≡◌}
use Rattle.air_turn.specs.Rule.{active_of}
use Rattle.air_turn.specs.Seats.{first_seats}
use Rattle.air_turn.proofs.Opened.{opens-as}
use Rattle.air_turn.proofs.Seating.{first-all}
use Rattle.air_turn.proofs.air.Air.open.Goals as goal

pub new-requires : goal.new-requires
new-requires c = opens-as c.args.state _ _ _ (record { valid = c.legal_law.ensures.valid; inside = c.legal_law.ensures.inside; legal = c.legal_law.ensures.legal }) (search rules) (search rules) c.of-about.ensures (search rules)

pub returns-clause-all : goal.returns-clause-all
returns-clause-all c =
    let e = c.in-Ok.table.shared.key.value.encounter in
    let is : c.in_ok-seats.seats.items ≡ first_seats c.in-Ok.table.shared.table_id e c.args.state.journal (active_of e) = search rules in
    first-all _ c.args.state.journal _ is
