use Rattle.std.proofs.Common.{append_assoc}
use Rattle.pair_watch.proofs.lines.interval_line.Goals as goal

pub returns : goal.returns
returns c =
    rw (
      c.text-3.ensures.added,
      c.add_next.ensures.added,
      c.text-2.ensures.added,
      c.text_field-2.ensures.added,
      c.cause_letter.ensures.text,
      c.u32_field-2.ensures.added,
      c.u32_field.ensures.added,
      c.text_field.ensures.added,
      c.sense_letter.ensures.text,
      c.address_field-2.ensures.added,
      c.value-2.ensures.value,
      c.address_field.ensures.added,
      c.value.ensures.value,
      c.text.ensures.added,
      c.new-line.ensures,
    ) (simp append_assoc)
