use Rattle.std.proofs.Common.{◌≡◌, ◌+◌, ◌≤◌, List, length}
use Rattle.enc_file.specs.Reading.{read_from, reading_of}
use Rattle.enc_file.specs.Tables.{Holds}
use Rattle.enc_file.specs.declared.record.Record.{Record}
use Rattle.enc_file.proofs.reading.read.Given as goal

-- The tables hold what the records so far say. The text says what they and those that are left say.
abbrev pub invariant-loop-row : goal.invariant-loop-row
invariant-loop-row l = record {
  earlier : List Record;
  holds : Holds earlier l.tables;
  same : reading_of l.fn.bytes ≡ read_from earlier l.rows;
  few : length earlier + length l.rows ≤ length l.fn.bytes;
}

-- Each turn takes a record.
abbrev pub decreases-loop-row : goal.decreases-loop-row
decreases-loop-row l = length l.rows
