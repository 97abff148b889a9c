use Rattle.rec_text.proofs.Joining.{commit-spelled}
use Rattle.rec_text.proofs.entries.add_commit.Goals as goal

pub returns : goal.returns
returns c =
    rw (
      c.text-2.ensures.added,
      c.add_cells.ensures.added,
      c.u16_field-2.ensures.added,
      c.u16_field.ensures.added,
      c.from.ensures,
      c.text.ensures.added,
      c.requires.empty,
    ) (commit-spelled c.args.own c.args.cycle c.args.count c.args.cells.now)
