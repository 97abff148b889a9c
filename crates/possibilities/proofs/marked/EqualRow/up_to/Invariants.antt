use Rattle.std.specs.Prelude.{◌≡◌, ◌≤◌}
use Rattle.possibilities.specs.Listing.{row_up_to}
use Rattle.possibilities.specs.Rows.{equal_of}
use Rattle.possibilities.proofs.marked.EqualRow.up_to.Given as goal

-- The row up to the cycle before.
abbrev pub invariant-loop-before : goal.invariant-loop-before
invariant-loop-before l = record {
  value : l.count ≡ row_up_to (equal_of l.self.possible.now.found.equal l.self.low l.self.high) l.before;
  few : l.count ≤ l.before;
}
