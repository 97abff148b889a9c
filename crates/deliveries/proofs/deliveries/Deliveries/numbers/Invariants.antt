use Rattle.std.proofs.Common.{◌≡◌, length, map}
use Rattle.std.specs.List.{range_with_len}
use Rattle.deliveries.specs.Mishaps.{befalls}
use Rattle.deliveries.proofs.deliveries.Deliveries.numbers.Given as goal

-- The messages so far are told.
abbrev pub invariant-loop-before : goal.invariant-loop-before
invariant-loop-before l = record {
  size : length l.numbers ≡ l.before;
  told : l.numbers ≡ map (befalls l.self.encounter l.self.journal l.mishap l.sender l.receiver) (range_with_len 1 l.before);
}
