-- Which plans and fates have no effect.
use Rattle.std.specs.Prelude.{ℕ, ◌==◌, ◌&&◌, ◌||◌, not, nat_lt, Bool, false, List, length, filter, Option, Some, None, option_map, slice_get}
use Rattle.std.specs.List.{position}
use Rattle.std.specs.Option.{option_and_then, option_map_or}
use Rattle.acas_base.specs.Encounter.{Parts, is_ra_kind}
use Rattle.acas_base.specs.declared.craft.CraftSpec.{CraftSpec}
use Rattle.acas_base.specs.declared.entry.Entry.{Entry}
use Rattle.acas_base.specs.declared.link.Fate.{Fate}
use Rattle.air_rules.specs.Journal.{sends}
use Rattle.enc_file.specs.Earlier.{fate_group}

-- An aircraft of kind RA is there at the index.
abbrev pub is_ra_at : List CraftSpec → ℕ → Bool
is_ra_at crafts craft = option_map_or (λ (spec : CraftSpec). is_ra_kind spec.kind) (slice_get crafts craft) false

-- Messages go between aircraft of kind RA alone.
abbrev pub are_ra : List CraftSpec → ℕ → ℕ → Bool
are_ra crafts sender receiver = is_ra_at crafts sender && is_ra_at crafts receiver

-- How many messages an aircraft sends to another one: as many as the journal says. Without a journal it is known that
-- there is at most one in each cycle.
abbrev pub most_sent : Parts → Option (List Entry) → ℕ → ℕ → ℕ
most_sent e None sender receiver = e.cycles
most_sent e (Some journal) sender receiver = sends journal sender receiver

-- A fate is idle where its message isn't sent.
abbrev pub is_idle : Parts → Option (List Entry) → Fate → Bool
is_idle e journal fate = not (are_ra e.crafts fate.sender fate.receiver) || nat_lt (most_sent e journal fate.sender fate.receiver) fate.number

abbrev pub is_idle_of : Parts → Option (List Entry) → ℕ → Fate → Bool
is_idle_of e journal pair fate = fate_group fate == pair && is_idle e journal fate

-- The idle fates of a pair.
abbrev pub idle_fates : Parts → Option (List Entry) → ℕ → List Fate
idle_fates e journal pair = filter (is_idle_of e journal pair) e.fates

-- The number of the first one.
abbrev pub number_at : List Fate → ℕ → Option ℕ
number_at fates place = option_map (λ (fate : Fate). fate.number) (slice_get fates place)

unfoldable pub first_idle : Parts → Option (List Entry) → ℕ → Option ℕ
first_idle e journal pair = option_and_then (number_at e.fates) (position (is_idle_of e journal pair) e.fates)
