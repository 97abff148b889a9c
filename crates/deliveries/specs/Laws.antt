-- What rows and messages are, without the recursions that find them.
use Rattle.std.specs.Prelude.{◌≡◌, ◌↔◌, ℕ, ◌+◌, ◌-◌, ◌<◌, ◌≤◌, Bool, true, false, List, Some, length}
use Rattle.acas_base.specs.declared.entry.Entry.{Entry}
use Rattle.air_rules.specs.Journal.{sends}
use Rattle.deliveries.specs.Mishaps.{was_sent}
use Rattle.deliveries.specs.Rows.{is_marked, row_at}
use Rattle.deliveries.specs.declared.rows.Row.{Row}

-- A maximal row of marked numbers among those that have a flag: neither the number before it is marked, nor the one
-- after it.
pub record IsRow (flags : List Bool) (row : Row) : Type 0 where
  pub begun : 1 ≤ row.first
  pub order : row.first ≤ row.last
  pub within : row.last ≤ length flags
  pub marked : (number : ℕ) → row.first ≤ number → number ≤ row.last → is_marked flags number ≡ true
  pub before : 1 < row.first → is_marked flags (row.first - 1) ≡ false
  pub after : is_marked flags (row.last + 1) ≡ false

-- The row in which a number lies.
pub record LiesIn (flags : List Bool) (number : ℕ) : Type 0 where
  pub row : Row
  pub is : IsRow flags row
  pub begun : row.first ≤ number
  pub lasting : number ≤ row.last

-- The row told at a number is a maximal row that begins there.
pub record IsRowAt (flags : List Bool) (number : ℕ) (row : Row) : Type 0 where
  pub is : IsRow flags row
  pub first : row.first ≡ number

-- A number that is marked lies in a maximal row; a number that lies in one is marked, and lies in no other one; and the
-- rows that are told, each at its first number, are the maximal rows.
pub record AreRows (flags : List Bool) : Type 0 where
  pub covered : (number : ℕ) → 1 ≤ number → is_marked flags number ≡ true → LiesIn flags number
  pub marked : (number : ℕ) → LiesIn flags number → is_marked flags number ≡ true
  pub once : (number : ℕ) (one other : LiesIn flags number) → one.row ≡ other.row
  pub told : (number : ℕ) (row : Row) → 1 ≤ number → row_at flags number ≡ Some row → IsRowAt flags number row
  pub whole : (row : Row) → IsRow flags row → row_at flags row.first ≡ Some row

-- The journal sent a message exactly where its number is one of those from 1 to how many were sent.
abbrev pub AreNumbered : List Entry → Type 0
AreNumbered journal = (sender receiver number : ℕ) → (was_sent journal sender receiver number ≡ true) ↔ ((1 ≤ number) × (number ≤ sends journal sender receiver))
