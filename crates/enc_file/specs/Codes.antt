-- The numbers of the codes.
use Rattle.std.specs.Prelude.{ℕ}
use Rattle.enc_file.specs.declared.refusal.Code.{Code}
use Rattle.enc_file.specs.declared.refusal.Code.TheVariants.{Header, Kind, Fields, Number, Address, Repeat, Unknown, Count, Box, Mask, NoEnd, After}

abbrev pub code_number : Code → ℕ
code_number Header = 1
code_number Kind = 2
code_number Fields = 3
code_number Number = 4
code_number Address = 5
code_number Repeat = 6
code_number Unknown = 7
code_number Count = 8
code_number Box = 9
code_number Mask = 10
code_number NoEnd = 11
code_number After = 12
