use Rattle.std.proofs.Common.{◌≡◌, take}
use Rattle.std.specs.Prelude.{reverse}
use Rattle.rec_text.specs.EntryCounts.{entry_counts}
use Rattle.rec_text.proofs.counts.entry_counts.Given as goal

-- The entries so far were counted.
abbrev pub invariant-loop-at : goal.invariant-loop-at
invariant-loop-at l = l.counts ≡ entry_counts (take l.at (reverse l.state.journal))
