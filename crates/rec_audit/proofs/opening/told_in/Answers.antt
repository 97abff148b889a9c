use Rattle.std.proofs.Common.{◌∙◌}
use Rattle.std.specs.Prelude.{codes}
use Rattle.rec_audit.proofs.Cutting.{tells-fields, tells-other}
use Rattle.rec_audit.proofs.Making.{equal, unequal}
use Rattle.rec_audit.proofs.opening.told_in.Goals as goal

pub returns-then-ne : goal.returns-then-ne
returns-then-ne c =
    tells-other c.args.fields.now c.next.new.self c.in_ok-word.word.now (codes "journal") c.in_ok-word.ensures (rw (c.as_slice.ensures) at (unequal c.in_ok-word.word.now c.as_slice.result.now c.ne.result c.ne.ensures c.if-ne.true))

pub returns : goal.returns
returns c =
    tells-fields c.args.fields.now c.next.new.self c.in_ok-word.word.now (codes "journal") c.number_in.result c.in_ok-word.ensures (equal c.in_ok-word.word.now c.as_slice.result.now c.ne.result c.ne.ensures c.if-ne.false ∙ c.as_slice.ensures)
    c.number_in.ensures
