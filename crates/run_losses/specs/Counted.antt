-- What is counted of a journal that is read in order.
use Rattle.std.specs.Prelude.{◌≡◌, ℕ, ◌+◌, ◌*◌, ◌<◌, List, length, reverse, slice_index_or, take}
use Rattle.acas_base.specs.declared.TheConstants.{CRAFTS}
use Rattle.acas_base.specs.declared.entry.Entry.{Entry}
use Rattle.air_rules.specs.Journal.{sends}

-- The first `count` entries of a journal.
abbrev pub read_of : List Entry → ℕ → List Entry
read_of journal count = reverse (take count (reverse journal))

-- How many messages were sent among these entries, by pair.
pub record AreSent (entries : List Entry) (sent : List ℕ) : Type 0 where
  pub size : length sent ≡ 256
  pub each : (sender receiver : ℕ) → sender < CRAFTS → receiver < CRAFTS → slice_index_or sent (sender * CRAFTS + receiver) 0 ≡ sends entries sender receiver
