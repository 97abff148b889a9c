use Rattle.std.proofs.Common.{rules, ◌≡◌, [], ◌∷◌, sym, subst}
use Rattle.air_turn.specs.Seats.{AreAllSeats}
use Rattle.keeping_tests.proofs.Returned.{exchanged}
use Rattle.keeping_tests.proofs.air_turn_tests.played.Goals as goal

-- The two seats come back in the other order.
pub close-requires : goal.close-requires
close-requires g c =
    let low = c.first_wrong-wrong.new.low in
    let high = c.first_wrong-wrong.new.high in
    let items : c.push_reserved-2.new.self.items ≡ high ∷ low ∷ [] = search rules in
    let all = exchanged c.in_ok-air.air c.in_ok-air.seats.items c.in-Some.low c.in-Some.high low high c.in-Some.ensures c.first_wrong-wrong.ensures.low c.first_wrong-wrong.ensures.high c.in_ok-air.ensures.all in
    subst (AreAllSeats c.in_ok-air.air) (sym items) all
