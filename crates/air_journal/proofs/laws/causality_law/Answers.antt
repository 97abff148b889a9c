use Rattle.air_journal.proofs.UpTo.{alike-up-to}
use Rattle.air_journal.proofs.laws.causality_law.Goals as goal
use Rattle.air_journal.specs.Airs.{air_of}

pub returns : goal.returns
returns c = record {
  alike = alike-up-to;
  same = λ e f last one two d g h s t.
      c.causality_law.ensures (air_of e) (air_of f) last one two (c.sound_law.ensures e d) (c.sound_law.ensures f g) (alike-up-to e f last h) s t;
}
