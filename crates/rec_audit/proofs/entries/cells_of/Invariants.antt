use Rattle.std.proofs.Common.{◌≡◌, ◌-◌, length, take, drop, map, get_or}
use Rattle.std.specs.Prelude.{All, replicate}
use Rattle.acas_base.specs.declared.TheConstants.{CRAFTS}
use Rattle.acas_base.specs.declared.advisory.Cell.TheVariants.{Clear}
use Rattle.advisory_report.specs.Cells.{cell_text}
use Rattle.air_journal.specs.Ranges.{IsCell}
use Rattle.rec_audit.proofs.entries.cells_of.Given as goal

abbrev pub invariant-loop-place : goal.invariant-loop-place
invariant-loop-place l = record {
  room : length l.list ≡ CRAFTS;
  read : map cell_text (take l.place l.list) ≡ take l.place l.fn.fields;
  rest : l.fields ≡ drop l.place l.fn.fields;
  each : All IsCell l.list;
  own_place : get_or l.list l.own Clear ≡ Clear;
  past : drop l.place l.list ≡ replicate (CRAFTS - l.place) Clear;
}
