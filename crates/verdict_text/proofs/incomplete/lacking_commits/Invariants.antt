use Rattle.std.proofs.Common.{◌≡◌, ℕ, ◌<◌, ◌≤◌, true}
use Rattle.air_journal.specs.Airs.{air_of}
use Rattle.air_rules.specs.Air.{is_active}
use Rattle.air_rules.specs.Journal.{commits}
use Rattle.verdict_text.proofs.incomplete.lacking_commits.Given as goal

abbrev pub invariant-loop-own : goal.invariant-loop-own
invariant-loop-own l = (before : ℕ) → before < l.own → is_active (air_of l.state.encounter) before ≡ true → l.state.encounter.cycles ≤ commits l.state.journal before
