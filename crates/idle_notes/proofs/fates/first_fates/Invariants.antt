use Rattle.std.proofs.Common.{◌≡◌, ◌<◌, ℕ, length}
use Rattle.std.specs.Prelude.{Option, slice_index_or}
use Rattle.idle_notes.specs.Messages.{first_idle}
use Rattle.idle_notes.specs.Sources.{encounter_in, journal_in}
use Rattle.idle_notes.proofs.fates.first_fates.Given as goal

-- Those of the pairs so far are there.
abbrev pub invariant-loop-pair : goal.invariant-loop-pair
invariant-loop-pair l = record {
  size : length l.firsts ≡ 256;
  each : (i : ℕ) (d : Option ℕ) → i < l.pair → slice_index_or l.firsts i d ≡ first_idle (encounter_in l.source) (journal_in l.source) i;
}
