use Rattle.std.proofs.Common.{◌≡◌}
use Rattle.response.specs.Flying.{flying}
use Rattle.response.proofs.flying.flown.Given as goal

-- The aircraft has come so far.
abbrev pub invariant-loop-done : goal.invariant-loop-done
invariant-loop-done l = l.flier ≡ flying l.state.encounter l.state.journal l.craft l.done
