-- Where an aircraft leaves the box, in words.
use Rattle.std.specs.Prelude.{ℕ, ℤ, pos, ◌/◌, ◌%◌, ◌==◌, int_lt, unsigned_abs, if◌then◌else◌, List, [], ◌++◌, codes}
use Rattle.std.specs.Fmt.{decimal, signed_decimal}
use Rattle.fault_text.specs.declared.leaving.Axis.{Axis}
use Rattle.fault_text.specs.declared.leaving.Axis.TheVariants as axis

abbrev pub axis_text : Axis → List ℕ
axis_text axis.X = codes "x"
axis_text axis.Y = codes "y"
axis_text axis.Altitude = codes "altitude"

-- A number of sixtieths that are left over, where there are any.
abbrev pub sixtieths_text : ℕ → List ℕ
sixtieths_text n = if n == 0 then [] else codes " " ++ decimal n ++ codes "/60"

-- A number of 1/60 ft as whole feet and sixtieths. The sign stands before both.
abbrev pub feet_text : ℤ → List ℕ
feet_text z = (if int_lt z (pos 0) then codes "-" else []) ++ decimal (unsigned_abs z / 60) ++ sixtieths_text (unsigned_abs z % 60)

abbrev pub value_text : Axis → ℤ → List ℕ
value_text axis.Altitude n = feet_text n
value_text other n = signed_decimal n

-- What the box has on an axis.
abbrev pub box_text : Axis → List ℕ
box_text axis.Altitude = codes " ft, and has to be from -1000 to 60000 ft"
box_text other = codes " ft, and has to be from -1000000 to 1000000 ft"

-- In which cycle the box is left, and where.
abbrev pub leaving_text : ℕ → Axis → ℤ → List ℕ
leaving_text cycle a value = codes " leaves the box in cycle " ++ decimal cycle ++ codes ": " ++ axis_text a ++ codes " is " ++ value_text a value ++ box_text a
