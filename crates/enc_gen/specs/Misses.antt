-- The misses of a generated encounter.
use Rattle.std.specs.Prelude.{ℕ, ◌+◌, ◌==◌, not, if◌then◌else◌, List, length, min}
use Rattle.acas_base.specs.Encounter.{is_active_at}
use Rattle.acas_base.specs.declared.craft.CraftSpec.{CraftSpec}
use Rattle.acas_base.specs.declared.craft.Miss.{Miss}
use Rattle.enc_gen.specs.Draws.{draw}
use Rattle.enc_gen.specs.Making.{Made, each, nothing, one, only}

-- A miss within the run.
abbrev pub some_miss : ℕ → ℕ → ℕ → ℕ → Made Miss
some_miss cycles own target s =
    let first = draw cycles s in
    let more = draw 8 first.state in
    one (record { own = own; target = target; from = 1 + first.number; to = min cycles (1 + first.number + more.number) }) more.state

-- The miss of a pair, if one is drawn.
unfoldable pub miss : ℕ → ℕ → ℕ → ℕ → Made Miss
miss cycles own target s =
    let d = draw 4 s in
    if d.number == 0 then some_miss cycles own target d.state else nothing d.state

-- The miss of an own aircraft and a target, where they are two aircraft.
abbrev pub pair_miss : ℕ → ℕ → ℕ → ℕ → Made Miss
pair_miss cycles own target = only (not (target == own)) (miss cycles own target)

-- The misses of an own aircraft, where it is active, by target.
abbrev pub own_misses : List CraftSpec → ℕ → ℕ → ℕ → Made Miss
own_misses crafts cycles own = only (is_active_at crafts own) (each (pair_miss cycles own) (length crafts))

-- The misses of all aircraft, by own aircraft.
abbrev pub misses : List CraftSpec → ℕ → ℕ → Made Miss
misses crafts cycles = each (own_misses crafts cycles) (length crafts)
