-- An aircraft that gives resolution advisories is active.
use Rattle.std.proofs.Common.{ℕ, false, Option, Some, None}
use Rattle.std.specs.Prelude.{IsTrue, slice_get}
use Rattle.std.specs.Option.{option_map_or}
use Rattle.acas_base.specs.Encounter.{Parts, is_active, is_active_at, is_active_kind, is_ra_kind}
use Rattle.acas_base.specs.declared.craft.CraftSpec.{CraftSpec}
use Rattle.acas_base.specs.declared.craft.Kind.{Kind}
use Rattle.acas_base.specs.declared.craft.Kind.TheVariants.{Ra, Ta, Xpdr}
use Rattle.craft_view.specs.Kept.{IsActive}
use Rattle.seconds_panel.specs.Own.{resolves_at}

by-kind : (kind : Kind) → IsTrue (is_ra_kind kind) → IsTrue (is_active_kind kind)
by-kind Ra h = h
by-kind Ta h = absurd (cc)
by-kind Xpdr h = absurd (cc)

by-craft : (craft : Option CraftSpec) → IsTrue (option_map_or (λ (it : CraftSpec). is_ra_kind it.kind) craft false) → IsTrue (option_map_or is_active craft false)
by-craft None h = absurd (cc)
by-craft (Some craft) h = by-kind craft.kind h

pub active : (e : Parts) (index : ℕ) → IsTrue (resolves_at e.crafts index) → IsActive e index
active e index h = by-craft (slice_get e.crafts index) h
