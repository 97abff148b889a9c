-- The sums over what many count.
use Rattle.std.specs.Prelude.{◌<◌, ◌^◌, List}
use Rattle.std.specs.List.{sum_by}
use Rattle.sweep.specs.declared.counts.Counts.{Counts}

abbrev pub total : List Counts → Counts
total list = record {
  commits = sum_by (λ (counts : Counts). counts.commits) list;
  sends = sum_by (λ (counts : Counts). counts.sends) list;
  takes = sum_by (λ (counts : Counts). counts.takes) list;
  lines = sum_by (λ (counts : Counts). counts.lines) list;
}

-- Each count fits 32 bits.
abbrev pub Fit : Counts → Type 0
Fit counts = (counts.commits < 2 ^ 32) × (counts.sends < 2 ^ 32) × (counts.takes < 2 ^ 32) × (counts.lines < 2 ^ 32)
