use Rattle.std.proofs.Common.{◌≡◌, ◌-◌, length}
use Rattle.air_rules.specs.Journal.{Begins}
use Rattle.ra_report.specs.Stories.{AreBlocks, AreStories}
use Rattle.ra_report.proofs.table.blocks_of.Given as goal

-- The stories and the blocks are those of what was read of the state's journal.
abbrev pub invariant-loop-entry : goal.invariant-loop-entry
invariant-loop-entry l = record {
  encounter : l.reader.encounter ≡ l.state.encounter;
  journal : l.reader.journal ≡ l.state.journal;
  begins : Begins l.reader.read l.reader.journal;
  stories : AreStories l.state.encounter l.reader.read l.stories;
  told : AreBlocks l.state.encounter l.reader.read l.blocks;
}

abbrev pub decreases-loop-entry : goal.decreases-loop-entry
decreases-loop-entry l = length l.reader.journal - length l.reader.read
