use Rattle.std.proofs.Common.{◌≡◌, ◌≤◌, unsigned_abs}
use Rattle.picture.specs.Heights.{modelled_in, over_flights}
use Rattle.picture.proofs.heights.all_modelled.Given as goal

-- Those of the aircraft so far.
abbrev pub invariant-loop-own : goal.invariant-loop-own
invariant-loop-own l = (l.span ≡ over_flights (modelled_in l.state.encounter l.state.journal) l.state.encounter.cycles l.fn.before l.own) × ((unsigned_abs l.span.low ≤ 32000000) × (unsigned_abs l.span.high ≤ 32000000))
