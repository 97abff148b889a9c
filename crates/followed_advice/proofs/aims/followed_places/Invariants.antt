use Rattle.std.proofs.Common.{◌≡◌}
use Rattle.std.specs.Prelude.{map}
use Rattle.std.specs.List.{range_with_len}
use Rattle.followed_advice.specs.Following.{followed}
use Rattle.followed_advice.proofs.aims.followed_places.Given as goal

-- The places in the cycles so far, and how far the flight was told.
abbrev pub invariant-loop-second : goal.invariant-loop-second
invariant-loop-second l = record {
  items : l.places.items ≡ map (followed l.encounter l.state.journal l.own) (range_with_len 1 l.second);
  flight : l.flight ≡ record { encounter = l.encounter; journal = l.state.journal; craft = l.own; told = l.second };
}
