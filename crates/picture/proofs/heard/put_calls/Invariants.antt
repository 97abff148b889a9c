use Rattle.std.proofs.Common.{◌≡◌, ◌-◌, ◌*◌, ◌≤◌, length}
use Rattle.std.specs.List.{flat_map, range_with_len}
use Rattle.picture.specs.Gathered.{lines_in}
use Rattle.picture.specs.Heard.{listed}
use Rattle.picture.proofs.heard.put_calls.Given as goal

-- The lines of the cycles so far were put, and their calls counted.
abbrev pub invariant-loop-cycle : goal.invariant-loop-cycle
invariant-loop-cycle g l =
    g.D.Drawing.drew l.fn.drawing l.drawing (listed l.top l.state.encounter l.labels 0 (flat_map (lines_in l.state.journal (length l.state.encounter.crafts)) (range_with_len 1 (l.cycle - 1))))
    × ((l.number ≡ length (flat_map (lines_in l.state.journal (length l.state.encounter.crafts)) (range_with_len 1 (l.cycle - 1)))) × (l.number ≤ 16 * (l.cycle - 1)))
