use Rattle.std.proofs.Common.{ℕ, ◌<◌, get_or}
use Rattle.acas_base.specs.Encounter.{AreApart}
use Rattle.acas_base.specs.declared.craft.CraftSpec.{CraftSpec}
use Rattle.acas_base.proofs.checks.are_apart.Given as goal

-- The aircraft so far are apart.
abbrev pub invariant-loop-i : goal.invariant-loop-i
invariant-loop-i l = (a b : ℕ) (d : CraftSpec) → a < b → b < l.i → AreApart (get_or l.crafts a d) (get_or l.crafts b d)
