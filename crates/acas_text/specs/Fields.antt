-- The texts of single fields.
use Rattle.std.specs.Prelude.{ℕ, ◌/◌, ◌%◌, Bool, if◌then◌else◌, ℤ, pos, int_lt, unsigned_abs, List, [], ◌++◌, Option, codes}
use Rattle.std.specs.Fmt.{decimal}
use Rattle.std.specs.Option.{option_map_or}

-- Nothing, where there is nothing to say.
abbrev pub if_any : {X : Type 0} → (X → List ℕ) → Option X → List ℕ
if_any text value = option_map_or text value []

-- 1 where something holds, else 0.
abbrev pub mark : Bool → List ℕ
mark holds = if holds then codes "1" else codes "0"

-- A number of tenths, with one digit after the point.
abbrev pub with_point : ℤ → List ℕ
with_point tenths = (if int_lt tenths (pos 0) then codes "-" else []) ++ decimal (unsigned_abs tenths / 10) ++ codes "." ++ decimal (unsigned_abs tenths % 10)
