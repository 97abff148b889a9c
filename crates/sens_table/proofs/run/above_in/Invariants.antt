use Rattle.std.proofs.Common.{◌≡◌}
use Rattle.sens_table.specs.Run.{above_in}
use Rattle.sens_table.proofs.run.above_in.Given as goal

-- These are the bounds of the newest cycle.
abbrev pub invariant-loop-before : goal.invariant-loop-before
invariant-loop-before l = l.above ≡ above_in l.encounter l.craft l.before
