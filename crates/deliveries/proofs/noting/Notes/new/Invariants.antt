use Rattle.deliveries.specs.Noted.{AreNotes}
use Rattle.deliveries.proofs.noting.Notes.new.Given as goal

-- The entries so far are noted.
abbrev pub invariant-loop-at : goal.invariant-loop-at
invariant-loop-at l = AreNotes l.state.encounter l.state.journal l.at l.notes.copies.items l.notes.takes.items l.notes.sent
