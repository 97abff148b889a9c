use Rattle.std.proofs.Common.{◌≡◌, ◌+◌, ◌≤◌, length}
use Rattle.std.specs.List.{flat_map, range_with_len}
use Rattle.picture.specs.Gathered.{lines_at}
use Rattle.picture.specs.Heard.{listed}
use Rattle.picture.proofs.heard.put_cycle.Given as goal

-- The lines of the aircraft so far were put, and their calls counted.
abbrev pub invariant-loop-own : goal.invariant-loop-own
invariant-loop-own g l =
    g.D.Drawing.drew l.fn.drawing l.drawing (listed l.top l.state.encounter l.labels l.fn.first (flat_map (lines_at l.state.journal (length l.state.encounter.crafts) l.cycle) (range_with_len 0 l.own)))
    × ((l.number ≡ l.fn.first + length (flat_map (lines_at l.state.journal (length l.state.encounter.crafts) l.cycle) (range_with_len 0 l.own))) × (l.number ≤ l.fn.first + l.own))
