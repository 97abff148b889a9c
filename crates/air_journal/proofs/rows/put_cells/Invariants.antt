use Rattle.std.proofs.Common.{◌≡◌, ◌≢◌, ℕ, ◌+◌, ◌*◌, ◌<◌, ◌≤◌, get_or, length}
use Rattle.acas_base.specs.declared.TheConstants.{CRAFTS}
use Rattle.air_rules.specs.Journal.{cell_at}
use Rattle.air_journal.specs.Kept.{committed_link, no_link}
use Rattle.air_journal.proofs.rows.put_cells.Given as goal

abbrev pub invariant-loop-other : goal.invariant-loop-other
invariant-loop-other l = record {
  size : length l.links.items ≡ 256;
  done : (b : ℕ) → b < l.other → get_or l.links.items (l.own * CRAFTS + b) no_link ≡ committed_link (get_or l.fn.links.items (l.own * CRAFTS + b) no_link) (cell_at l.cells b);
  rest : (b : ℕ) → l.other ≤ b → b < CRAFTS → get_or l.links.items (l.own * CRAFTS + b) no_link ≡ get_or l.fn.links.items (l.own * CRAFTS + b) no_link;
  others : (a b : ℕ) → a < CRAFTS → b < CRAFTS → a ≢ l.own → get_or l.links.items (a * CRAFTS + b) no_link ≡ get_or l.fn.links.items (a * CRAFTS + b) no_link;
}
