use Rattle.possibilities.proofs.RunAdded.{said_below}
use Rattle.possibilities.specs.Shown.{AddsWords}
use Rattle.possibilities.proofs.tables.Tables.add_all_words.Given as goal

-- The words of the aircraft so far are there.
abbrev pub invariant-loop-own : goal.invariant-loop-own
invariant-loop-own l = AddsWords (said_below l.run.journal l.own) l.fn.self l.self
