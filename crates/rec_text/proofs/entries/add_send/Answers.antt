use Rattle.std.proofs.Common.{append_assoc}
use Rattle.rec_text.proofs.entries.add_send.Goals as goal

pub returns : goal.returns
returns c =
    rw (
      c.text-2.ensures.added,
      c.hex_field.ensures.added,
      c.u16_field-3.ensures.added,
      c.u16_field-2.ensures.added,
      c.from-2.ensures,
      c.u16_field.ensures.added,
      c.from.ensures,
      c.text.ensures.added,
      c.requires.empty,
    ) (simp append_assoc)
