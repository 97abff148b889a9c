use Rattle.std.proofs.Common.{append_assoc}
use Rattle.response.proofs.pairs.approach_line.Goals as goal

pub returns : goal.returns
returns c =
    rw (
      c.text-2.ensures.added,
      c.u32_field-2.ensures.added,
      c.u32_field.ensures.added,
      c.u16_field.ensures.added,
      c.address_field-2.ensures.added,
      c.value-2.ensures.value,
      c.address_field.ensures.added,
      c.value.ensures.value,
      c.text.ensures.added,
      c.new-line.ensures,
    ) (simp append_assoc)
