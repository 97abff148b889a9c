use Rattle.std.proofs.Common.{◌≡◌, ◌+◌, ◌*◌, ◌≤◌, ◌++◌, length, take}
use Rattle.std.specs.List.{flat_map, range_with_len}
use Rattle.deliveries.specs.Rows.{row_there}
use Rattle.deliveries.specs.Text.{rows_joined, shown_rows}
use Rattle.deliveries.proofs.row_text.add_rows.Given as goal

-- The rows that begin so far were counted, and the first six were added.
abbrev pub invariant-loop-before : goal.invariant-loop-before
invariant-loop-before l = record {
  counted : l.count ≡ length (flat_map (row_there l.numbers) (range_with_len 1 l.before));
  few : l.count ≤ l.before;
  added : l.line ≡ l.fn.line ++ rows_joined (take shown_rows (flat_map (row_there l.numbers) (range_with_len 1 l.before)));
  few_shown : l.count ≤ 6 → length l.line ≤ length l.fn.line + 9 * l.count;
  all_shown : 6 ≤ l.count → length l.line ≤ length l.fn.line + 54;
}
