-- The changes of a row.
use Rattle.std.specs.Prelude.{ℕ, ◌+◌, ◌-◌, ◌≤◌, Bool, ℤ, pos, ◌+ℤ◌, ◌*ℤ◌, List, filter, flat_map, length, map, slice_get, false, unsigned_abs}
use Rattle.std.specs.List.{range_with_len}
use Rattle.std.specs.Option.{option_map_or}
use Rattle.acas_base.specs.Encounter.{is_ra_kind}
use Rattle.acas_base.specs.declared.craft.CraftSpec.{CraftSpec}
use Rattle.variants.specs.declared.change.Change.{Change}
use Rattle.variants.specs.declared.change.Change.TheVariants.{Exchanged, Shifted}
use Rattle.variants.specs.declared.change.Quantity.{Quantity}
use Rattle.variants.specs.declared.rows.Values.{Values}

-- The values of a row that a command can name.
pub record AreValues (values : Values) : Type 0 where
  pub first : unsigned_abs values.first ≤ 2000000
  pub step : unsigned_abs values.step ≤ 2000000
  pub some : 1 ≤ values.count
  pub few : values.count ≤ 4096

-- The value at a place of the row, from 0.
abbrev pub value_at : Values → ℕ → ℤ
value_at values place = values.first +ℤ (values.step *ℤ pos place)

-- The change at a place of the row.
abbrev pub shift_at : Quantity → ℕ → Values → ℕ → Change
shift_at quantity craft values place = Shifted (record { quantity = quantity; craft = craft; value = value_at values place })

-- A change for each value, in order.
abbrev pub shifts_of : Quantity → ℕ → Values → List Change
shifts_of quantity craft values = map (shift_at quantity craft values) (range_with_len 0 values.count)

-- There is an aircraft of kind RA at the index.
abbrev pub is_ra_at : List CraftSpec → ℕ → Bool
is_ra_at crafts craft = option_map_or (λ (spec : CraftSpec). is_ra_kind spec.kind) (slice_get crafts craft) false

abbrev pub exchange_of : ℕ → ℕ → Change
exchange_of one two = Exchanged (record { one = one; two = two })

-- The addresses of an aircraft exchanged with those of each one of kind RA among others.
abbrev pub exchanges_among : List CraftSpec → ℕ → List ℕ → List Change
exchanges_among crafts one others = map (exchange_of one) (filter (is_ra_at crafts) others)

-- With those of kind RA behind it.
abbrev pub exchanges_from : List CraftSpec → ℕ → List Change
exchanges_from crafts one = exchanges_among crafts one (range_with_len (one + 1) (length crafts - (one + 1)))

-- These exchanges of each aircraft of kind RA among some.
abbrev pub exchanges_by : List CraftSpec → List ℕ → List Change
exchanges_by crafts some = flat_map (exchanges_from crafts) (filter (is_ra_at crafts) some)

-- The addresses of each two aircraft of kind RA exchanged, by their indices.
abbrev pub exchanges_of : List CraftSpec → List Change
exchanges_of crafts = exchanges_by crafts (range_with_len 0 (length crafts))
