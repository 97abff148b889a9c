-- How many messages were sent, and what befell them.
use Rattle.std.specs.Prelude.{◌≡◌, ℕ, ◌+◌, ◌≤◌, Bool, if◌then◌else◌, List, is_some}
use Rattle.acas_base.specs.Encounter.{Parts}
use Rattle.acas_base.specs.declared.entry.Entry.{Entry}
use Rattle.air_rules.specs.Journal.{as_sent, count_of}
use Rattle.deliveries.specs.Mishaps.{befalls_sent}
use Rattle.deliveries.specs.declared.counts.Counts.{Counts}
use Rattle.deliveries.specs.declared.mishap.Mishap.{Mishap}
use Rattle.deliveries.specs.declared.mishap.Mishap.TheVariants.{Lost, Spoilt, HeldBack, Repeated, Untaken}

abbrev pub counted : Counts → Mishap → ℕ
counted counts Lost = counts.lost
counted counts Spoilt = counts.spoilt
counted counts HeldBack = counts.held_back
counted counts Repeated = counts.repeated
counted counts Untaken = counts.untaken

abbrev pub nothing_counted : Counts
nothing_counted = record { sent = 0; lost = 0; spoilt = 0; held_back = 0; repeated = 0; untaken = 0 }

-- Entries that send a message.
abbrev pub sends_one : Entry → Bool
sends_one entry = is_some (as_sent entry)

-- The counts of these entries.
pub record AreCounts (e : Parts) (journal entries : List Entry) (counts : Counts) : Type 0 where
  pub sent : counts.sent ≡ count_of sends_one entries
  pub lost : counts.lost ≡ count_of (befalls_sent e journal Lost) entries
  pub spoilt : counts.spoilt ≡ count_of (befalls_sent e journal Spoilt) entries
  pub held_back : counts.held_back ≡ count_of (befalls_sent e journal HeldBack) entries
  pub repeated : counts.repeated ≡ count_of (befalls_sent e journal Repeated) entries
  pub untaken : counts.untaken ≡ count_of (befalls_sent e journal Untaken) entries

-- None of them is above this.
pub record AreFew (counts : Counts) (most : ℕ) : Type 0 where
  pub sent : counts.sent ≤ most
  pub lost : counts.lost ≤ most
  pub spoilt : counts.spoilt ≤ most
  pub held_back : counts.held_back ≤ most
  pub repeated : counts.repeated ≤ most
  pub untaken : counts.untaken ≤ most

abbrev pub one_where : Bool → ℕ
one_where holds = if holds then 1 else 0

-- One entry more was counted, where it sends a message, for each mishap that befell that message.
pub record WithOne (old new : Counts) (sends : Bool) (befell : Mishap → Bool) : Type 0 where
  pub sent : new.sent ≡ old.sent + one_where sends
  pub lost : new.lost ≡ old.lost + one_where (befell Lost)
  pub spoilt : new.spoilt ≡ old.spoilt + one_where (befell Spoilt)
  pub held_back : new.held_back ≡ old.held_back + one_where (befell HeldBack)
  pub repeated : new.repeated ≡ old.repeated + one_where (befell Repeated)
  pub untaken : new.untaken ≡ old.untaken + one_where (befell Untaken)
