use Rattle.std.proofs.Common.{◌≡◌, ◌≤◌, ◌+◌, ◌*◌, ◌∷◌, ◌++◌, length, take}
use Rattle.std.specs.List.{flat_map}
use Rattle.advisory_report.specs.Cells.{cell_text}
use Rattle.advisory_report.specs.declared.cells.TheConstants.{CELL_BYTES}
use Rattle.rec_text.proofs.entries.add_cells.Given as goal

-- So many cells were added.
abbrev pub invariant-loop-place : goal.invariant-loop-place
invariant-loop-place l = record {
  written : l.line ≡ l.fn.line ++ flat_map (λ cell. 44 ∷ cell_text cell) (take l.place l.cells.list);
  short : length l.line ≤ length l.fn.line + (CELL_BYTES + 1) * l.place;
}
