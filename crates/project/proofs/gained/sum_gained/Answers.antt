use Rattle.std.proofs.Common.{◌∙◌, sym}
use Rattle.project.proofs.Closed.{not-reached, reached}
use Rattle.project.proofs.gained.sum_gained.Goals as goal

pub returns-then-moves-whole-clause-value : goal.returns-then-moves-whole-clause-value
returns-then-moves-whole-clause-value c = c.sum_of_steps.ensures.value ∙ sym (not-reached c.args.distance c.args.step c.args.moves c.if-moves-whole.true)

pub returns-else-moves-whole-clause-value : goal.returns-else-moves-whole-clause-value
returns-else-moves-whole-clause-value c =
    rw c.sum_of_steps-else-moves-whole.ensures.value (sym (reached c.args.distance c.args.step c.args.moves c.requires.forward c.if-moves-whole.false))
