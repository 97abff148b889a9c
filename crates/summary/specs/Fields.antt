-- The texts of single columns.
use Rattle.std.specs.Prelude.{ℕ, ◌-◌, ◌*◌, ◌/◌, ◌%◌, if◌then◌else◌, nat_lt, List, [], ◌++◌, codes, length, replicate}
use Rattle.std.specs.Fmt.{decimal}
use Rattle.acas_base.specs.declared.advisory.Rank.{Rank}
use Rattle.acas_base.specs.declared.advisory.Rank.TheVariants.{First, Second, Free}
use Rattle.acas_base.specs.declared.craft.Kind.{Kind}
use Rattle.acas_base.specs.declared.craft.Kind.TheVariants.{Ra, Ta, Xpdr}

abbrev pub kind_text : Kind → List ℕ
kind_text Ra = codes "RA"
kind_text Ta = codes "TA"
kind_text Xpdr = codes "XPDR"

abbrev pub rank_text : Rank → List ℕ
rank_text First = codes " first"
rank_text Second = codes " second"
rank_text Free = codes " free"

-- What stands before a cycle, so that it takes three columns.
abbrev pub margin : ℕ → List ℕ
margin cycle = if nat_lt cycle 10 then codes "  " else (if nat_lt cycle 100 then codes " " else [])

-- The first and the last cycle of a row, each in three columns.
abbrev pub cycles_text : ℕ → ℕ → List ℕ
cycles_text first last = margin first ++ decimal first ++ codes "-" ++ margin last ++ decimal last

abbrev pub spaces : ℕ → List ℕ
spaces count = replicate count 32

-- The columns of a word of the report: the longest one has thirteen letters.
abbrev pub word_columns : List ℕ → List ℕ
word_columns word = word ++ spaces (13 - length word)

-- A distance in ft as nautical miles of 6,076 ft, with two digits after the point, rounded down.
abbrev pub hundredths : ℕ → ℕ
hundredths feet = feet * 100 / 6076

abbrev pub two_digits : ℕ → List ℕ
two_digits n = (if nat_lt n 10 then codes "0" else []) ++ decimal n

abbrev pub miles : ℕ → List ℕ
miles feet = decimal (hundredths feet / 100) ++ codes "." ++ two_digits (hundredths feet % 100)

-- How many rows aren't told, where there are more than are told.
abbrev pub more_line : ℕ → List ℕ
more_line count = codes "    and " ++ decimal count ++ codes " more\n"
