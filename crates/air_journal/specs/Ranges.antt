-- The entries that a journal can have, by the ranges of their parts.
use Rattle.std.specs.Prelude.{◌≡◌, ℕ, ◌-◌, ◌<◌, ◌≤◌, ◌^◌, All, length, drop, replicate}
use Rattle.acas_base.specs.Ranges.{IsCycle}
use Rattle.acas_base.specs.declared.TheConstants.{CRAFTS}
use Rattle.acas_base.specs.declared.advisory.Cell.{Cell}
use Rattle.acas_base.specs.declared.advisory.Cell.TheVariants.{Clear, Traffic, Ra}
use Rattle.acas_base.specs.declared.advisory.Cells.{Cells}
use Rattle.acas_base.specs.declared.entry.Entry.{Entry}
use Rattle.acas_base.specs.declared.entry.Entry.TheVariants.{Commit, Send, Take}
use Rattle.air_rules.specs.Journal.{cell_at}

-- An advisory is as many cycles old as a run can have.
abbrev pub IsCell : Cell → Type 0
IsCell Clear = Unit {0}
IsCell Traffic = Unit {0}
IsCell (Ra it) = IsCycle it.age

-- The cells of an aircraft among `count` aircraft: its own place and those past the last aircraft are Clear.
pub record AreCells (count own : ℕ) (cells : Cells) : Type 0 where
  pub size : length cells.list ≡ CRAFTS
  pub each : All IsCell cells.list
  pub own_place : cell_at cells own ≡ Clear
  pub past : drop count cells.list ≡ replicate (CRAFTS - count) Clear

-- An entry in an encounter of `count` aircraft.
abbrev pub IsEntry : ℕ → Entry → Type 0
IsEntry count (Commit own cycle cells) = (own < count) × IsCycle cycle × AreCells count own cells
IsEntry count (Send own target number word) = (own < count) × (target < count) × IsCycle number × (word < 2 ^ 56)
IsEntry count (Take own send copy good) = (own < count) × (send < 2 ^ 32) × (copy ≤ 2)
