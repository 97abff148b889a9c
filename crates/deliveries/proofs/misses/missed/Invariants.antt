use Rattle.std.proofs.Common.{◌≡◌, length, map}
use Rattle.std.specs.List.{range_with_len}
use Rattle.deliveries.specs.Misses.{misses_reply}
use Rattle.deliveries.proofs.misses.missed.Given as goal

-- The cycles so far are told.
abbrev pub invariant-loop-before : goal.invariant-loop-before
invariant-loop-before l = record {
  size : length l.cycles ≡ l.before;
  told : l.cycles ≡ map (misses_reply l.encounter l.own l.target) (range_with_len 1 l.before);
}
