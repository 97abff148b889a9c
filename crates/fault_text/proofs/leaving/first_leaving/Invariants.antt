use Rattle.std.proofs.Common.{◌<◌, ℕ}
use Rattle.fault_text.specs.Leaving.{Stays}
use Rattle.fault_text.proofs.leaving.first_leaving.Given as goal

-- Each aircraft so far stays in the box.
abbrev pub invariant-loop-index : goal.invariant-loop-index
invariant-loop-index l = (craft : ℕ) → craft < l.index → Stays l.encounter craft
