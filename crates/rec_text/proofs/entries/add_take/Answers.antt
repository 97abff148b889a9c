use Rattle.std.proofs.Common.{append_assoc}
use Rattle.rec_text.proofs.entries.add_take.Goals as goal

pub returns : goal.returns
returns c =
    rw (
      c.text-2.ensures.added,
      c.text_field.ensures.added,
      c.outcome_letter.ensures.text,
      c.u16_field-2.ensures.added,
      c.from-2.ensures,
      c.u32_field.ensures.added,
      c.u16_field.ensures.added,
      c.from.ensures,
      c.text.ensures.added,
      c.requires,
    ) (simp append_assoc)
