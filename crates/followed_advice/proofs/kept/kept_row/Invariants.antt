use Rattle.std.proofs.Common.{◌≡◌}
use Rattle.std.specs.Prelude.{All, map}
use Rattle.std.specs.List.{range_with_len}
use Rattle.flight.specs.Inside.{IsInBox}
use Rattle.followed_advice.specs.Keeping.{kept}
use Rattle.followed_advice.proofs.kept.kept_row.Given as goal

-- What is kept of the places so far.
abbrev pub invariant-loop-second : goal.invariant-loop-second
invariant-loop-second l = record {
  items : l.row.items ≡ map (kept l.places) (range_with_len 1 l.second);
  all_boxed : All IsInBox l.row.items;
  last : l.here ≡ kept l.places l.second;
  boxed : IsInBox l.here;
}
