use Rattle.std.proofs.Common.{◌≡◌, ◌+◌, ◌≤◌, ℕ, List, [], ◌++◌, length}
use Rattle.enc_file.specs.Conditions.{ArePassed}
use Rattle.enc_file.specs.Reading.{read_from, reading_of}
use Rattle.enc_file.specs.Records.{records_of}
use Rattle.enc_file.specs.Tables.{Holds}
use Rattle.enc_file.specs.declared.record.Record.{Record}
use Rattle.fault_text.proofs.before.encounter_among.Given as goal

-- The records that were read so far stand before those that are left, and the tables hold what they say. They are the
-- first ones of any records that begin so.
abbrev pub invariant-loop-left : goal.invariant-loop-left
invariant-loop-left l = record {
  read : List (List (List ℕ));
  all : records_of l.fn.text ≡ read ++ l.rows;
  earlier : List Record;
  count : length earlier ≡ length read;
  holds : Holds earlier l.tables;
  same : reading_of l.fn.text ≡ read_from earlier l.rows;
  passed : (more : List (List (List ℕ))) (all : List Record) → ArePassed [] (read ++ more) all → ArePassed earlier more all;
  left : l.left + length earlier ≡ l.fn.refusal.at;
  some : 1 ≤ l.left;
}

abbrev pub decreases-loop-left : goal.decreases-loop-left
decreases-loop-left l = l.left
