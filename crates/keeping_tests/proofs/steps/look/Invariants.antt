use Rattle.std.proofs.Common.{◌≡◌}
use Rattle.craft_view.specs.Kept.{Belongs}
use Rattle.keeping_tests.proofs.steps.look.Given as goal

abbrev pub invariant-loop-cycle : goal.invariant-loop-cycle
invariant-loop-cycle l = record {
  belongs : Belongs l.enc l.craft;
  own : l.craft.own ≡ l.own;
  looks : l.craft.cycle ≡ l._cycle;
}
