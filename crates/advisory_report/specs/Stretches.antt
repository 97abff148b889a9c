-- Rows of cycles in which an aircraft shows one word of the report.
use Rattle.std.specs.Prelude.{◌≡◌, ◌≢◌, ℕ, ◌-◌, ◌<◌, ◌≤◌}
use Rattle.advisory_report.specs.Composite.{word_of}
use Rattle.advisory_report.specs.declared.composite.Composite.{Composite}
use Rattle.advisory_report.specs.declared.stretches.Stretch.{Stretch}

-- The longest row of cycles that ends with the last one and has one word throughout. `all` gives what is shown in each
-- cycle, from 1.
pub record IsStretch (all : ℕ → Composite) (row : Stretch) : Type 0 where
  pub begun : 1 ≤ row.first
  pub in_order : row.first ≤ row.last
  pub shown_is : row.shown ≡ all row.last
  pub same : (cycle : ℕ) → row.first ≤ cycle → cycle ≤ row.last → word_of (all cycle) ≡ word_of (all row.last)
  pub starts : 1 < row.first → word_of (all (row.first - 1)) ≢ word_of (all row.last)
