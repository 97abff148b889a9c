use Rattle.std.proofs.Common.{◌≤◌, length, arith}
use Rattle.run_losses.proofs.Noting.{all-noted, sent-none}
use Rattle.run_losses.proofs.sent.sent_by_pair.Goals as goal

pub loop-at-init : goal.loop-at-init
loop-at-init c = sent-none

pub returns : goal.returns
returns c =
    let J = c.args.state.now.journal in
    let end : length J ≤ c.loop-at.at = (let n = c.count-at-end.ensures.value in let t = c.loop-at-test.false in omega arith) in
    all-noted J c.loop-at.at c.loop-at.sent end c.loop-at.invariant
