use Rattle.std.proofs.Common.{◌≡◌, ◌+◌, length, subst, arith}
use Rattle.outcomes.specs.Crews.{AreKeptBelow, kept_at}
use Rattle.outcomes.proofs.Keeping.{none-kept}
use Rattle.outcomes.proofs.crews.keep_all.Goals as goal

pub loop-cycle-init : goal.loop-cycle-init
loop-cycle-init c = none-kept c.args.state.now.journal (length c.args.state.now.encounter.crafts) c.nothing_kept-list.result c.nothing_kept-list.ensures

pub returns : goal.returns
returns c =
    let e = c.args.state.now.encounter in
    let all : c.loop-cycle.cycle ≡ e.cycles + 1 = omega (arith, c.cycles-count.ensures.value, c.loop-cycle.auto.cycle-end, c.loop-cycle-test.false) in
    subst (λ n. AreKeptBelow c.args.state.now.journal (length e.crafts) (kept_at 0 n) c.loop-cycle.list) all c.loop-cycle.invariant
