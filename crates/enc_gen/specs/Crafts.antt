-- The aircraft of a generated encounter, and how they fly.
use Rattle.std.specs.Prelude.{ℕ, ◌+◌, ◌*◌, ◌==◌, if◌then◌else◌, nat_le, ℤ, pos, neg_ℤ, ◌-ℤ◌, ◌*ℤ◌, int_div, List, [], ◌∷◌, None, filter}
use Rattle.acas_base.specs.Ranges.{IsBetween, IsWithin}
use Rattle.acas_base.specs.declared.craft.CraftSpec.{CraftSpec}
use Rattle.acas_base.specs.declared.craft.Kind.{Kind}
use Rattle.acas_base.specs.declared.craft.Kind.TheVariants.{Ra, Ta, Xpdr}
use Rattle.acas_base.specs.declared.craft.Leg.{Leg}
use Rattle.enc_gen.specs.Draws.{draw}
use Rattle.enc_gen.specs.Making.{Made, one}
use Rattle.enc_gen.specs.declared.crafts.Draft.{Draft}

-- The kind of an aircraft, by the number that is drawn for it. Aircraft 0 is always RA.
abbrev pub kind_of : ℕ → ℕ → Kind
kind_of craft number = if craft == 0 then Ra else if number == 0 then Xpdr else if number == 1 then Ta else Ra

-- A coordinate in ft.
abbrev pub coordinate : ℕ → ℤ
coordinate number = (pos number -ℤ pos 60) *ℤ pos 1000

-- An altitude in ft.
abbrev pub altitude : ℕ → ℤ
altitude number = pos (5000 + 100 * number)

-- A vertical rate in ft/min.
abbrev pub climb : ℕ → ℤ
climb number = (pos number -ℤ pos 10) *ℤ pos 100

-- What is drawn for an aircraft: five numbers.
unfoldable pub draft : ℕ → ℕ → Made Draft
draft craft s =
    let kind = draw 8 s in
    let x = draw 121 kind.state in
    let y = draw 121 x.state in
    let alt = draw 300 y.state in
    let rate = draw 21 alt.state in
    one (record {
      craft = craft;
      kind = kind_of craft kind.number;
      x = coordinate x.number;
      y = coordinate y.number;
      alt = altitude alt.number;
      climb = climb rate.number;
    }) rate.state

-- The address of an aircraft.
abbrev pub address_of : ℕ → ℕ
address_of craft = 4194560 + 257 * craft

abbrev pub spec_of : Draft → CraftSpec
spec_of d = record { address = address_of d.craft; kind = d.kind; x = d.x; y = d.y; alt = d.alt; ceiling = None }

-- The speed in ft/s that leads from a coordinate to zero in 100 s.
abbrev pub speed : ℤ → ℤ
speed distance = neg_ℤ (int_div distance (pos 100))

-- A leg that leads to the z axis in 100 s, and then past it.
abbrev pub inwards : Draft → ℕ → Leg
inwards d from = record { craft = d.craft; from = from; vx = speed d.x; vy = speed d.y; vz = d.climb }

-- A leg with the opposite of these three rates.
abbrev pub backwards : Draft → ℕ → Leg
backwards d from = record { craft = d.craft; from = from; vx = neg_ℤ (speed d.x); vy = neg_ℤ (speed d.y); vz = neg_ℤ d.climb }

-- The legs of an aircraft. Only those that begin within the run count.
unfoldable pub legs_of : ℕ → Draft → List Leg
legs_of cycles d = filter (λ (leg : Leg). nat_le leg.from cycles) (inwards d 1 ∷ backwards d 201 ∷ inwards d 401 ∷ [])

-- The ranges of what is drawn for an aircraft.
pub record IsDraft (d : Draft) : Type 0 where
  pub x : IsWithin 60000 d.x
  pub y : IsWithin 60000 d.y
  pub alt : IsBetween (pos 5000) (pos 34900) d.alt
  pub climb : IsWithin 1000 d.climb
