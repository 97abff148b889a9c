use Rattle.std.specs.List.{flat_map}
use Rattle.journal_reader.specs.Reading.{read_of}
use Rattle.picture.specs.Mishaps.{rows_in}
use Rattle.picture.specs.MishapsDrawn.{drawn_row}
use Rattle.picture.proofs.mishaps.put_mishaps.Given as goal

-- The rows that begin with the entries so far were put.
abbrev pub invariant-loop-at : goal.invariant-loop-at
invariant-loop-at g l = g.D.Drawing.drew l.fn.drawing l.drawing (flat_map (drawn_row l.deliveries.encounter l.sign) (rows_in l.deliveries.encounter l.deliveries.journal l.sign (read_of l.deliveries.journal l.at)))
