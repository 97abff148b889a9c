use Rattle.journal_tables.specs.Noted.{AreNoted}
use Rattle.journal_tables.proofs.altitudes.altitudes_of.Given as goal

-- The altitudes of the aircraft so far are kept.
abbrev pub invariant-loop-craft : goal.invariant-loop-craft
invariant-loop-craft l = AreNoted l.state.encounter l.state.journal l.craft 0 l.list
