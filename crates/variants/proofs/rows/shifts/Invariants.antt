use Rattle.std.proofs.Common.{◌≡◌}
use Rattle.std.specs.Prelude.{All, map}
use Rattle.std.specs.List.{range_with_len}
use Rattle.variants.specs.Rows.{shift_at}
use Rattle.variants.specs.Variants.{IsSmall}
use Rattle.variants.proofs.rows.shifts.Given as goal

-- The changes so far.
abbrev pub invariant-loop-place : goal.invariant-loop-place
invariant-loop-place l = record {
  items : l.changes.items ≡ map (shift_at l.quantity l.craft l.values) (range_with_len 0 l.place);
  small : All IsSmall l.changes.items;
}
