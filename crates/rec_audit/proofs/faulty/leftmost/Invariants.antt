use Rattle.std.proofs.Common.{◌≡◌, ◌+◌, ◌≤◌, ℕ, List, drop, length}
use Rattle.rec_audit.specs.Faulty.{AreRight, IsLeftmost}
use Rattle.rec_audit.specs.Fields.{fields_of}
use Rattle.verdict_text.specs.declared.spelling.EntryField.{EntryField}
use Rattle.rec_audit.proofs.faulty.leftmost.Given as goal

abbrev pub invariant-loop-found : goal.invariant-loop-found
invariant-loop-found l = record {
  few : l.place + length l.fields ≤ 255;
  all : AreRight l.fn.crafts l.fn.kind l.fn.own l.place l.fields → AreRight l.fn.crafts l.fn.kind l.fn.own 0 (drop 1 (fields_of l.fn.body));
  some : (name : EntryField) (found : List ℕ) → IsLeftmost l.fn.crafts l.fn.kind l.fn.own l.place l.fields name found → IsLeftmost l.fn.crafts l.fn.kind l.fn.own 0 (drop 1 (fields_of l.fn.body)) name found;
}

abbrev pub decreases-loop-found : goal.decreases-loop-found
decreases-loop-found l = length l.fields
