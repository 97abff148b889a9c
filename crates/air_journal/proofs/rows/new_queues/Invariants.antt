use Rattle.std.proofs.Common.{◌≡◌, ℕ, ◌<◌, ◌/◌, ◌%◌, length, get_or}
use Rattle.acas_base.specs.declared.TheConstants.{CRAFTS}
use Rattle.air_journal.specs.Airs.{air_of}
use Rattle.air_journal.specs.Kept.{IsNewQueue, no_queue}
use Rattle.air_journal.proofs.rows.new_queues.Given as goal

abbrev pub invariant-loop-pair : goal.invariant-loop-pair
invariant-loop-pair l = record {
  size : length l.queues.items ≡ l.pair;
  done : (k : ℕ) → k < l.pair → IsNewQueue (air_of l.encounter) (k / CRAFTS) (k % CRAFTS) (get_or l.queues.items k no_queue);
}
