use Rattle.std.proofs.Common.{rules}
use Rattle.keeping_tests.proofs.Returned.{all-back}
use Rattle.keeping_tests.proofs.air_turn_tests.sent.Goals as goal

pub close-requires : goal.close-requires
close-requires g c =
    all-back c.in_ok-air.air _ c.in_ok-air.seats.items c.as_mut_slice.result.now c.all_send.new.seats c.as_mut_slice.ensures.value (search rules) (search rules) c.all_send.ensures c.in_ok-air.ensures.all
