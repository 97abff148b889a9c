use Rattle.std.proofs.Common.{◌≡◌, ◌≤◌, ◌++◌, length, vec_capacity}
use Rattle.std.specs.Prelude.{All}
use Rattle.craft_view.specs.Kept.{IsActive}
use Rattle.air_turn.specs.Rule.{active_of}
use Rattle.air_turn.proofs.Actives.{active_from}
use Rattle.air_turn.proofs.opening.actives.Given as goal

-- Those found so far, and those from here on, are all.
abbrev pub invariant-loop-own : goal.invariant-loop-own
invariant-loop-own l = record {
  all : l.owns.items ++ active_from l.enc l.own ≡ active_of l.enc;
  active : All (IsActive l.enc) l.owns.items;
  few : length l.owns.items ≤ l.own;
  room : length l.enc.crafts ≤ vec_capacity l.owns;
}
