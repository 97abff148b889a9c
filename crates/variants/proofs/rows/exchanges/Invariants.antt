use Rattle.std.proofs.Common.{◌≡◌}
use Rattle.std.specs.Prelude.{All}
use Rattle.std.specs.List.{range_with_len}
use Rattle.variants.specs.Rows.{exchanges_by}
use Rattle.variants.specs.Variants.{IsSmall}
use Rattle.variants.proofs.rows.exchanges.Given as goal

-- The exchanges so far.
abbrev pub invariant-loop-index : goal.invariant-loop-index
invariant-loop-index l = record {
  items : l.changes.items ≡ exchanges_by l.crafts (range_with_len 0 l.index);
  small : All IsSmall l.changes.items;
}
