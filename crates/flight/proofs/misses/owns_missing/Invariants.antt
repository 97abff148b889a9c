use Rattle.std.proofs.Common.{◌≡◌, ℕ, ◌<◌, false, length, take}
use Rattle.std.specs.List.{list_any}
use Rattle.std.specs.Prelude.{slice_index_or}
use Rattle.acas_base.specs.declared.TheConstants.{CRAFTS}
use Rattle.flight.specs.Measurement.{is_of_own}
use Rattle.flight.proofs.misses.owns_missing.Given as goal

-- The records so far have been marked.
abbrev pub invariant-loop-miss : goal.invariant-loop-miss
invariant-loop-miss l = record {
  size : length l.owns ≡ CRAFTS;
  marked : (own : ℕ) → own < CRAFTS → slice_index_or l.owns own false ≡ list_any (is_of_own own l.cycle) (take l.miss-index l.misses);
}
