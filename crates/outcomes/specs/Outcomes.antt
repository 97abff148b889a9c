-- What the run of an encounter comes to.
use Rattle.std.specs.Prelude.{◌≡◌, ℕ, ◌<◌, List, length, slice_index_or, MatchOption}
use Rattle.acas_base.specs.Encounter.{Parts}
use Rattle.acas_base.specs.declared.entry.Entry.{Entry}
use Rattle.outcomes.specs.Advised.{began, ended, first_cycle}
use Rattle.outcomes.specs.Events.{times_in_all}
use Rattle.outcomes.specs.Nearest.{IsNearest}
use Rattle.outcomes.specs.declared.advised.Senses.{Senses}
use Rattle.outcomes.specs.declared.advised.Senses.TheVariants.{Neither}
use Rattle.outcomes.specs.declared.events.Event.TheVariants.{Turn, Reversal, Equal}
use Rattle.outcomes.specs.declared.outcome.Outcome.{Outcome}

-- The list has the senses of each of the first so many aircraft.
pub record AreSenses (each : ℕ → Senses) (crafts : ℕ) (list : List Senses) : Type 0 where
  pub size : length list ≡ 16
  pub are : (own : ℕ) → own < crafts → slice_index_or list own Neither ≡ each own

-- The outcome is that of an encounter with this journal.
pub record IsOutcome (e : Parts) (journal : List Entry) (outcome : Outcome) : Type 0 where
  pub crafts : outcome.crafts ≡ length e.crafts
  pub first : outcome.first ≡ first_cycle e journal
  pub begins : AreSenses (began e journal) (length e.crafts) outcome.began
  pub ends : AreSenses (ended e journal) (length e.crafts) outcome.ended
  pub turns : outcome.turns ≡ times_in_all Turn e journal
  pub reversals : outcome.reversals ≡ times_in_all Reversal e journal
  pub equal : outcome.equal ≡ times_in_all Equal e journal
  pub nearest : MatchOption outcome.nearest (length e.crafts ≡ 1) (IsNearest e journal)
