use Rattle.air_journal.proofs.Fates.{alike-but-copies}
use Rattle.air_journal.specs.Airs.{air_of}
use Rattle.air_journal.proofs.laws.shape_law.Goals as goal

pub returns : goal.returns
returns c = record {
  alike = alike-but-copies;
  shape = λ e f one two d g same l m.
      c.shape_law.ensures.alike (air_of e) (air_of f) one two (c.sound_law.ensures e d) (c.sound_law.ensures f g) (alike-but-copies e f same) l m;
}
