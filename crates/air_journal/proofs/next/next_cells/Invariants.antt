use Rattle.std.proofs.Common.{◌≡◌, ℕ, ◌<◌, ◌≤◌, get_or, length}
use Rattle.acas_base.specs.declared.TheConstants.{CRAFTS}
use Rattle.acas_base.specs.declared.advisory.Cell.TheVariants.{Clear}
use Rattle.air_journal.specs.Airs.{air_of}
use Rattle.air_journal.specs.Found.{next_in}
use Rattle.air_journal.proofs.next.next_cells.Given as goal

abbrev pub invariant-loop-target : goal.invariant-loop-target
invariant-loop-target l = record {
  size : length l.list ≡ CRAFTS;
  done : (k : ℕ) → k < l.target → get_or l.list k Clear ≡ next_in (air_of l.encounter) l.tables l.own k;
  rest : (k : ℕ) → l.target ≤ k → k < CRAFTS → get_or l.list k Clear ≡ Clear;
}
