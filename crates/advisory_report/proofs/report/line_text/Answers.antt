use Rattle.std.proofs.Common.{append_assoc}
use Rattle.advisory_report.proofs.report.line_text.Goals as goal

pub returns : goal.returns
returns c =
    rw (
      c.text-2.ensures.added,
      c.text_field-2.ensures.added,
      c.phrase.ensures.text,
      c.aural_of.ensures,
      c.text_field.ensures.added,
      c.word.ensures.text,
      c.address_field.ensures.added,
      c.value.ensures.value,
      c.u16_field.ensures.added,
      c.text.ensures.added,
      c.new-line.ensures,
    ) (simp append_assoc)
