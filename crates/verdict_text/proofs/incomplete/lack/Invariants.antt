use Rattle.std.proofs.Common.{◌≡◌, ℕ, ◌<◌, true}
use Rattle.air_journal.specs.Airs.{air_of}
use Rattle.air_rules.specs.Air.{is_active}
use Rattle.air_rules.specs.Owed.{OwesNothing}
use Rattle.verdict_text.proofs.incomplete.lack.Given as goal

abbrev pub invariant-loop-sender : goal.invariant-loop-sender
invariant-loop-sender l = record {
  encounter : l.state.encounter ≡ l.fn.state.encounter;
  journal : l.state.journal ≡ l.fn.state.journal;
  none : (before : ℕ) → before < l.sender → is_active (air_of l.fn.state.encounter) before ≡ true → OwesNothing (air_of l.fn.state.encounter) l.fn.state.journal before;
}
