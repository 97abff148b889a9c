use Rattle.std.proofs.Common.{◌≡◌}
use Rattle.craft_view.specs.Kept.{Belongs}
use Rattle.seeing_tests.proofs.craft_view_tests.craft_after.Given as goal

abbrev pub invariant-loop : goal.invariant-loop
invariant-loop l = record {
  belongs : Belongs l.encounter l.craft;
  looks : l.craft.cycle ≡ l.counter;
}
