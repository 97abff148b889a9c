use Rattle.std.proofs.Common.{arith}
use Rattle.verdict_text.proofs.Barring.{none-taken}
use Rattle.verdict_text.proofs.takes.taken_at.Goals as goal

pub returns : goal.returns
returns c = none-taken c.args.state.now.journal c.args.own c.args.send c.args.copy (λ place x low is. c.loop-at.invariant place x (omega (arith, low, c.loop-at-test.false, c.count-at-end.ensures.value)) is)
