use Rattle.std.proofs.Common.{◌≡◌, ◌≤◌, length}
use Rattle.summary.specs.Pairs.{equal_rows, row_lines}
use Rattle.summary.proofs.equal.put_rows.Given as goal

-- The lines of the rows so far were put, and the rows were counted.
abbrev pub invariant-loop-earlier : goal.invariant-loop-earlier
invariant-loop-earlier g l = record {
  put : g.S.LineSink.took l.fn.sink l.sink (row_lines l.state.journal l.state.encounter.cycles l.a l.b l.earlier);
  counted : l.found ≡ length (equal_rows l.state.journal l.a l.b l.earlier);
  few : l.found ≤ l.earlier;
}
