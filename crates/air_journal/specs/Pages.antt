-- Notes in pages.
use Rattle.std.specs.Prelude.{◌≡◌, ℕ, ◌-◌, ◌≤◌, List, [], ◌∷◌, ◌++◌, length, min}
use Rattle.air_journal.specs.declared.log.TheConstants.{PAGE_NOTES}
use Rattle.air_journal.specs.declared.log.Note.{Note}

-- The notes in order, and for how many there is room.
pub record Noted : Type 0 where
  pub notes : List Note
  pub room : ℕ

abbrev pub joined : List (List Note) → List Note
joined [] = []
joined (page ∷ pages) = page ++ joined pages

-- So many notes fill the pages from the first one on.
abbrev pub Fill : List (List Note) → ℕ → Type 0
Fill [] count = count ≡ 0
Fill (page ∷ pages) count = (length page ≡ min PAGE_NOTES count) × Fill pages (count - PAGE_NOTES)

pub record ArePages (pages : List (List Note)) (count : ℕ) : Type 0 where
  pub filled : Fill pages count
  pub few : length pages ≤ 1000000
