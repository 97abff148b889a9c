-- Where the aircraft of a generated encounter begin. In profile 2 they pass each other sideways, too.
use Rattle.std.specs.Prelude.{ℕ, ◌==◌, if◌then◌else◌, pos, ◌+ℤ◌, ◌-ℤ◌, List, map}
use Rattle.acas_base.specs.declared.craft.CraftSpec.{CraftSpec}
use Rattle.acas_base.specs.declared.setting.Profile.{Profile}
use Rattle.acas_base.specs.declared.setting.Profile.TheVariants.{One, Two}
use Rattle.enc_gen.specs.Crafts.{spec_of}
use Rattle.enc_gen.specs.Draws.{draw}
use Rattle.enc_gen.specs.Making.{Made, each_of, one}
use Rattle.enc_gen.specs.declared.crafts.Draft.{Draft}

-- An aircraft that begins further along, by so many ft. The way is a number that is drawn: its X is greater, its Y is
-- greater, its X is less, or its Y is less.
abbrev pub moved : ℕ → ℕ → CraftSpec → CraftSpec
moved way by spec =
    if way == 0 then record spec { x = spec.x +ℤ pos by }
    else if way == 1 then record spec { y = spec.y +ℤ pos by }
    else if way == 2 then record spec { x = spec.x -ℤ pos by }
    else record spec { y = spec.y -ℤ pos by }

-- How far an aircraft is moved at most, in ft: not at all in profile 1, and 4 NM in profile 2.
abbrev pub most_aside : Profile → ℕ
most_aside One = 0
most_aside Two = 24304

-- Two draws for an aircraft: how far it is moved, 0 to 24,304 ft (4 NM), and which way. Aircraft 0 stays, and nothing
-- is drawn for it.
unfoldable pub aside : Draft → ℕ → Made CraftSpec
aside d s =
    let by = draw 24305 s in
    let way = draw 4 by.state in
    if d.craft == 0 then one (spec_of d) s else one (moved way.number by.number (spec_of d)) way.state

-- The aircraft, where they begin. In profile 2 this takes draws.
unfoldable pub placed : Profile → List Draft → ℕ → List CraftSpec
placed One ds s = map spec_of ds
placed Two ds s = (each_of aside ds s).items
