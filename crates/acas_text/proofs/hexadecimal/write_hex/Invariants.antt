use Rattle.std.proofs.Common.{◌≡◌, ◌≤◌, ◌++◌, drop, length}
use Rattle.acas_text.specs.Hex.{hex}
use Rattle.acas_text.proofs.hexadecimal.write_hex.Given as goal

-- The digits that are left and those that are written are all digits.
abbrev pub invariant-loop-left : goal.invariant-loop-left
invariant-loop-left l = record {
  within : l.left ≤ length l.text;
  size : length l.text ≡ length l.fn.text;
  written : hex (length l.fn.text) l.fn.value ≡ hex l.left l.rest ++ drop l.left l.text;
}

abbrev pub decreases-loop-left : goal.decreases-loop-left
decreases-loop-left l = l.left
