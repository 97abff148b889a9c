use Rattle.std.proofs.Common.{◌≡◌, ◌<◌, ◌^◌, take}
use Rattle.acas_text.specs.Hex.{hex}
use Rattle.acas_text.proofs.hexadecimal.parse_hex.Given as goal

-- The digits so far spell the value so far.
abbrev pub invariant-loop-glyph : goal.invariant-loop-glyph
invariant-loop-glyph l = record {
  small : l.value < 16 ^ l.glyph-index;
  read : take l.glyph-index l.text ≡ hex l.glyph-index l.value;
}
