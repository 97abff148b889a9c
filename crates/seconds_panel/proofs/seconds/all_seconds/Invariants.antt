use Rattle.std.proofs.Common.{◌≡◌, ◌-◌, length}
use Rattle.craft_view.specs.Kept.{Belongs}
use Rattle.seconds_panel.specs.Seconds.{AreSeconds}
use Rattle.seconds_panel.proofs.seconds.all_seconds.Given as goal

-- The craft has looked in the cycles so far, and the list has what its tests need in them.
abbrev pub invariant-loop-cycle : goal.invariant-loop-cycle
invariant-loop-cycle l = record {
  belongs : Belongs l.encounter l.craft;
  own : l.craft.own ≡ l.pair.own;
  looks : l.craft.cycle ≡ l.cycle - 1;
  told : AreSeconds l.encounter l.pair (l.cycle - 1) l.list;
  size : length l.list ≡ 600;
}
