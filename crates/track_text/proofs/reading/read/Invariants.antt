use Rattle.std.proofs.Common.{◌≡◌, ◌+◌, ◌≤◌, ℕ, List, [], ◌++◌, length}
use Rattle.enc_file.specs.Records.{records_of}
use Rattle.track_text.specs.Conditions.{ArePassed}
use Rattle.track_text.specs.Tables.{HoldsTracks}
use Rattle.track_text.specs.declared.record.TrackRecord.{TrackRecord}
use Rattle.track_text.proofs.reading.read.Given as goal

-- The records that were read so far stand before those that are left, and the tables hold what they say.
abbrev pub invariant-loop-row : goal.invariant-loop-row
invariant-loop-row l = record {
  read : List (List (List ℕ));
  all : records_of l.fn.bytes ≡ read ++ l.rows;
  few : length read + length l.rows ≤ length l.fn.bytes;
  earlier : List TrackRecord;
  count : length earlier ≡ length read;
  holds : HoldsTracks earlier l.tables;
  passed : ArePassed [] read earlier;
}

-- Each turn takes a record.
abbrev pub decreases-loop-row : goal.decreases-loop-row
decreases-loop-row l = length l.rows
