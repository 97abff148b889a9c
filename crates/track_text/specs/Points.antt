-- The lines of points.
use Rattle.std.specs.Prelude.{ℕ, ◌==◌, ◌&&◌, Bool, List, codes}
use Rattle.std.specs.Str.{bytes_eq}
use Rattle.enc_file.specs.Conditions.{if_said}
use Rattle.enc_file.specs.Values.{address_in, field}

-- A record is a point of the aircraft with an address, by its fields.
abbrev pub row_point_of : ℕ → List (List ℕ) → Bool
row_point_of address fields = bytes_eq (field fields 0) (codes "at") && if_said (address_in (field fields 1)) (λ n. n == address)
