use Rattle.std.proofs.Common.{◌≡◌, ℕ, ◌+◌, ◌*◌, ◌<◌, ◌≤◌, ◌^◌, List, ◌++◌, length}
use Rattle.idle_notes.specs.Told.{all_notes, notes_from, still_told}
use Rattle.idle_notes.proofs.notes.NotesText.put.Given as goal

-- The notes of the lines so far were put, up to the limit.
abbrev pub invariant-loop-line : goal.invariant-loop-line
invariant-loop-line g l = record {
  done : List (List ℕ);
  took : g.S.LineSink.took l.fn.sink l.sink (still_told 0 done);
  told : l.told ≡ length done;
  whole : all_notes l.fn.self.encounter l.fn.self.journal l.fn.self.text ≡ done ++ notes_from l.fn.self.encounter l.fn.self.journal l.number l.lines;
  room : l.number + length l.lines < 2 ^ 32;
  few : l.told + 3 ≤ 3 * l.number;
}

abbrev pub decreases-loop-line : goal.decreases-loop-line
decreases-loop-line g l = length l.lines
