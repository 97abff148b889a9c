use Rattle.std.proofs.Common.{length}
use Rattle.outcomes.specs.Crews.{AreKeptBelow, kept_at}
use Rattle.outcomes.proofs.crews.keep_cycle.Given as goal

-- What the aircraft so far show is kept.
abbrev pub invariant-loop-own : goal.invariant-loop-own
invariant-loop-own l = AreKeptBelow l.state.journal (length l.state.encounter.crafts) (kept_at l.own l.cycle) l.list
