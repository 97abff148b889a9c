use Rattle.std.proofs.Common.{◌≡◌, ℕ, ◌<◌, true}
use Rattle.air_journal.specs.Airs.{air_of}
use Rattle.air_rules.specs.Air.{is_active}
use Rattle.air_rules.specs.Rules.{IsDone}
use Rattle.air_journal.proofs.state.AirState.complete.Given as goal

abbrev pub invariant-loop-own : goal.invariant-loop-own
invariant-loop-own l = (other : ℕ) → other < l.own → is_active (air_of l.self.encounter) other ≡ true → IsDone (air_of l.self.encounter) l.self.journal other
