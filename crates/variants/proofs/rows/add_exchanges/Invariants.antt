use Rattle.std.proofs.Common.{◌≡◌, ◌++◌}
use Rattle.std.specs.Prelude.{All}
use Rattle.std.specs.List.{range_with_len}
use Rattle.variants.specs.Rows.{exchanges_among}
use Rattle.variants.specs.Variants.{IsSmall}
use Rattle.variants.proofs.rows.add_exchanges.Given as goal

-- The exchanges so far.
abbrev pub invariant-loop-place : goal.invariant-loop-place
invariant-loop-place l = record {
  items : l.changes.items ≡ l.fn.changes.items ++ exchanges_among l.crafts l.one (range_with_len l.first l.place);
  small : All IsSmall l.fn.changes.items → All IsSmall l.changes.items;
}
