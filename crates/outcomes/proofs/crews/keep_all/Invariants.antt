use Rattle.std.proofs.Common.{length}
use Rattle.outcomes.specs.Crews.{AreKeptBelow, kept_at}
use Rattle.outcomes.proofs.crews.keep_all.Given as goal

-- What is shown up to the cycles so far is kept.
abbrev pub invariant-loop-cycle : goal.invariant-loop-cycle
invariant-loop-cycle l = AreKeptBelow l.state.journal (length l.state.encounter.crafts) (kept_at 0 l.cycle) l.list
