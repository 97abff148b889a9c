-- The encounter that is generated from a number.
use Rattle.std.specs.Prelude.{ℕ, nat_le, if◌then◌else◌, pos, [], None, map}
use Rattle.std.specs.List.{flat_map}
use Rattle.acas_base.specs.Encounter.{Parts, encounter_of, most_crafts, usual_altitude_gains, usual_range_gains}
use Rattle.acas_base.specs.declared.setting.Profile.{Profile}
use Rattle.acas_base.specs.declared.setting.Profile.TheVariants.{One, Two}
use Rattle.acas_base.specs.declared.setting.Setting.{Setting}
use Rattle.enc_gen.specs.Crafts.{draft, legs_of, spec_of}
use Rattle.enc_gen.specs.Draws.{seed}
use Rattle.enc_gen.specs.Fates.{fates}
use Rattle.enc_gen.specs.Making.{Made, each}
use Rattle.enc_gen.specs.Misses.{misses}
use Rattle.enc_gen.specs.Passing.{placed}
use Rattle.enc_gen.specs.declared.crafts.Draft.{Draft}

-- The version of the format. In profile 1 it is version 1 where that has room for all aircraft, else version 2. In
-- profile 2 it is version 3.
abbrev pub version_of : Profile → ℕ → ℕ
version_of One crafts = if nat_le crafts (most_crafts 1) then 1 else 2
version_of Two crafts = 3

-- How an encounter is run that has this profile and so many aircraft and cycles. It is called nothing.
abbrev pub setting_for : Profile → ℕ → ℕ → Setting
setting_for profile crafts cycles = record {
  version = version_of profile crafts;
  profile = profile;
  cycles = cycles;
  elevation = pos 0;
  range = usual_range_gains;
  altitude = usual_altitude_gains;
  name = None;
  clock = None;
}

-- What is drawn for the aircraft.
abbrev pub drafts_of : ℕ → ℕ → Made Draft
drafts_of number crafts = each draft crafts (seed number)

-- The encounter of this profile and this number, with `crafts` aircraft and `cycles` cycles. All aircraft are drawn
-- first, then the misses, then the fates of messages. In profile 2 it is drawn last how far each aircraft passes aside.
unfoldable pub generated : Profile → ℕ → ℕ → ℕ → Parts
generated profile number crafts cycles =
    let drafts = drafts_of number crafts in
    let list = map spec_of drafts.items in
    let legs = flat_map (legs_of cycles) drafts.items in
    let missed = misses list cycles drafts.state in
    let fated = fates list cycles missed.state in
    encounter_of (setting_for profile crafts cycles) [] (placed profile drafts.items fated.state) legs missed.items [] fated.items
