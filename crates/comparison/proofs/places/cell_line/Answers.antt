use Rattle.std.proofs.Common.{append_assoc}
use Rattle.comparison.proofs.places.cell_line.Goals as goal

pub returns : goal.returns
returns c =
    rw (
      c.text-2.ensures.added,
      c.add_found-2.ensures.added,
      c.cell_of-2.ensures,
      c.cells-2.ensures,
      c.add_position-2.ensures.added,
      c.commit_at-2.ensures,
      c.add_found.ensures.added,
      c.cell_of.ensures,
      c.cells.ensures,
      c.add_position.ensures.added,
      c.commit_at.ensures,
      c.address_field-2.ensures.added,
      c.address_of-2.ensures.value,
      c.enc-2.ensures,
      c.address_field.ensures.added,
      c.address_of.ensures.value,
      c.enc.ensures,
      c.u16_field.ensures.added,
      c.text.ensures.added,
      c.new-line.ensures,
    ) (simp append_assoc)
