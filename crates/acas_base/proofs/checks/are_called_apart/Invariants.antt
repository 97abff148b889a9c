use Rattle.std.proofs.Common.{ℕ, ◌<◌, get_or}
use Rattle.acas_base.specs.Encounter.{AreCalledApart}
use Rattle.acas_base.specs.declared.label.Call.{Call}
use Rattle.acas_base.proofs.checks.are_called_apart.Given as goal

-- The call signs so far are apart.
abbrev pub invariant-loop-i : goal.invariant-loop-i
invariant-loop-i l = (a b : ℕ) (d : Call) → a < b → b < l.i → AreCalledApart (get_or l.calls a d) (get_or l.calls b d)
