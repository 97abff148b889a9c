use Rattle.std.proofs.Common.{◌≡◌, ◌-◌, length}
use Rattle.std.specs.List.{flat_map}
use Rattle.air_rules.specs.Journal.{Begins}
use Rattle.picture.specs.Messages.{arrows_in}
use Rattle.picture.specs.MessagesDrawn.{arrow_marks}
use Rattle.picture.proofs.messages.put_arrows.Given as goal

-- The arrows of the entries so far were put.
abbrev pub invariant-loop-entry : goal.invariant-loop-entry
invariant-loop-entry g l = record {
  encounter : l.reader.encounter ≡ l.state.encounter;
  journal : l.reader.journal ≡ l.state.journal;
  begins : Begins l.reader.read l.reader.journal;
  put : g.D.Drawing.drew l.fn.drawing l.drawing (flat_map (arrow_marks l.state.encounter) (arrows_in l.state.encounter l.state.journal l.reader.read));
}

abbrev pub decreases-loop-entry : goal.decreases-loop-entry
decreases-loop-entry g l = length l.state.journal - length l.reader.read
