use Rattle.std.proofs.Common.{◌≡◌, ℕ, ◌<◌, ◌/◌, ◌%◌, length, get_or, None}
use Rattle.acas_base.specs.declared.TheConstants.{CRAFTS}
use Rattle.air_journal.specs.Usual.{IsUnnamed}
use Rattle.air_journal.proofs.usual.all_unnamed.Given as goal

abbrev pub invariant-loop-pair : goal.invariant-loop-pair
invariant-loop-pair l = record {
  size : length l.fates.items ≡ l.pair;
  done : (k : ℕ) → k < l.pair → IsUnnamed l.encounter 0 (k / CRAFTS) (k % CRAFTS) (get_or l.fates.items k None);
}
