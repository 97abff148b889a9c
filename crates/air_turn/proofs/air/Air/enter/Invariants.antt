use Rattle.std.proofs.Common.{◌≡◌}
use Rattle.air_turn.proofs.air.Air.enter.Given as goal

-- Looks in vain change nothing.
abbrev pub invariant-loop : goal.invariant-loop
invariant-loop g l = record {
  table : l.place.table_id ≡ l.initial.place.table_id;
  id : l.place.id ≡ l.initial.place.id;
  me : l.place.me ≡ l.initial.place.me;
}
