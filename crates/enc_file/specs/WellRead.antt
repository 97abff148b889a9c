-- What is known of the records before the next one.
use Rattle.std.specs.Prelude.{◌≡◌, ℕ, ◌<◌, ◌≤◌, false, IsTrue, List, [], ◌∷◌, None}
use Rattle.acas_base.specs.Encounter.{IsAltitude, IsCraft, IsElevation, IsGains, IsVersion, plain_copy}
use Rattle.acas_base.specs.Labels.{is_call_sign, is_label}
use Rattle.acas_base.specs.Ranges.{IsCycle, IsWithin}
use Rattle.acas_base.specs.declared.craft.CraftSpec.{CraftSpec}
use Rattle.acas_base.specs.declared.link.CopyPlan.{CopyPlan}
use Rattle.enc_file.specs.Earlier.{has_ended, version_of}
use Rattle.enc_file.specs.Faults.{fault_of}
use Rattle.enc_file.specs.declared.record.Copies.{Copies}
use Rattle.enc_file.specs.declared.record.Course.{Course}
use Rattle.enc_file.specs.declared.record.Record.{Record}
use Rattle.enc_file.specs.declared.record.Record.TheVariants as said
use Rattle.enc_file.specs.declared.record.Run.{Run}
use Rattle.enc_file.specs.declared.record.TrackGains.{TrackGains}

pub record IsRunSaid (run : Run) : Type 0 where
  pub cycles : IsCycle run.cycles
  pub elevation : IsElevation run.elevation

pub record AreGainsSaid (gains : TrackGains) : Type 0 where
  pub range : IsGains gains.range
  pub altitude : IsGains gains.altitude

pub record IsCraftSaid (craft : CraftSpec) : Type 0 where
  pub ranges : IsCraft craft
  pub ceiling : craft.ceiling ≡ None

pub record IsCourse (course : Course) : Type 0 where
  pub from : IsCycle course.from
  pub vx : IsWithin 2000 course.vx
  pub vy : IsWithin 2000 course.vy
  pub vz : IsWithin 10000 course.vz

pub record AreCycles (first last : ℕ) : Type 0 where
  pub from : IsCycle first
  pub to : IsCycle last
  pub order : first ≤ last

-- The copy at a place, from 0, of `count` copies. It is zero past the last one.
pub record IsCopySaid (place count : ℕ) (copy : CopyPlan) : Type 0 where
  pub hold : copy.hold ≤ 60
  pub byte : copy.mask < 256
  pub unused : count ≤ place → copy ≡ plain_copy

pub record AreCopiesSaid (copies : Copies) : Type 0 where
  pub few : copies.count ≤ 3
  pub first : IsCopySaid 0 copies.count copies.first
  pub second : IsCopySaid 1 copies.count copies.second
  pub third : IsCopySaid 2 copies.count copies.third

-- The fields that a record says by itself are in their ranges.
abbrev pub IsSaid : Record → Type 0
IsSaid (said.Header version) = IsVersion version
IsSaid (said.Run run) = IsRunSaid run
IsSaid (said.Gains gains) = AreGainsSaid gains
IsSaid (said.Craft craft) = IsCraftSaid craft
IsSaid (said.Climb address limit) = IsAltitude limit
IsSaid (said.Leg address course) = IsCourse course
IsSaid (said.Miss pair from to) = AreCycles from to
IsSaid (said.Plan pair copies) = AreCopiesSaid copies
IsSaid (said.Fate pair number copies) = IsCycle number × AreCopiesSaid copies
IsSaid said.End = Unit {0}
IsSaid (said.Profile profile) = Unit {0}
IsSaid (said.Name text) = IsTrue (is_label text)
IsSaid (said.Clock second) = second < 86400
IsSaid (said.Call address sign) = IsTrue (is_call_sign sign)

-- It is of a kind that the format has after its header.
abbrev pub IsOfFormat : ℕ → Record → Type 0
IsOfFormat version (said.Header other) = ⊥
IsOfFormat version (said.Climb address limit) = 2 ≤ version
IsOfFormat version (said.Plan pair copies) = 2 ≤ version
IsOfFormat version (said.Profile profile) = 3 ≤ version
IsOfFormat version (said.Name text) = 3 ≤ version
IsOfFormat version (said.Clock second) = 3 ≤ version
IsOfFormat version (said.Call address sign) = 3 ≤ version
IsOfFormat version other = Unit {0}

-- A record that stands well after those before it.
pub record IsNext (earlier : List Record) (now : Record) : Type 0 where
  pub ranges : IsSaid now
  pub format : IsOfFormat (version_of earlier) now
  pub unended : has_ended earlier ≡ false
  pub sound : fault_of earlier now ≡ None

abbrev pub IsHeader : Record → Type 0
IsHeader (said.Header version) = IsVersion version
IsHeader other = ⊥

-- The first record is a header, and each later one stands well after those before it.
abbrev pub AreRead : List Record → Type 0
AreRead [] = Unit {0}
AreRead (now ∷ []) = IsHeader now
AreRead (now ∷ last ∷ earlier) = AreRead (last ∷ earlier) × IsNext (last ∷ earlier) now
