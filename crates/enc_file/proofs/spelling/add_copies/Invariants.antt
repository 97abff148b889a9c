use Rattle.std.proofs.Common.{◌≡◌, ◌≤◌, ◌+◌, ◌*◌, ◌++◌, ◌∷◌, length, take}
use Rattle.std.specs.List.{flat_map}
use Rattle.enc_file.specs.Spelling.{copy_fields}
use Rattle.enc_file.proofs.spelling.add_copies.Given as goal

abbrev pub invariant-loop-copy : goal.invariant-loop-copy
invariant-loop-copy l = record {
  added : l.line ≡ l.fn.line ++ flat_map (λ field. 44 ∷ field) (flat_map copy_fields (take l.copy-index l.copy-items));
  short : length l.line ≤ length l.fn.line + 9 * l.copy-index;
}
