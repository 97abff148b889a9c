use Rattle.std.proofs.Common.{◌≡◌, ◌≤◌, take}
use Rattle.std.specs.Str.Parse.{AllDigits, digits_value}
use Rattle.acas_text.proofs.decimal.parse_up_to.Given as goal

-- The digits so far, and their value.
abbrev pub invariant-loop-glyph : goal.invariant-loop-glyph
invariant-loop-glyph l = record {
  digits : AllDigits 10 (take l.glyph-index l.bytes);
  value_is : l.value ≡ digits_value 10 (take l.glyph-index l.bytes);
  within : l.value ≤ l.high;
}
