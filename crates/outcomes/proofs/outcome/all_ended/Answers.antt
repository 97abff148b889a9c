use Rattle.std.proofs.Common.{◌≡◌, length, subst, arith}
use Rattle.outcomes.specs.Advised.{ended}
use Rattle.outcomes.specs.Outcomes.{AreSenses}
use Rattle.outcomes.proofs.Keeping.{no-senses, senses-more}
use Rattle.outcomes.proofs.outcome.all_ended.Goals as goal

pub loop-own-init : goal.loop-own-init
loop-own-init c = no-senses (ended c.args.state.now.encounter c.args.state.now.journal) c.no_senses-list.result c.no_senses-list.ensures

pub loop-own-preserved : goal.loop-own-preserved
loop-own-preserved c =
    senses-more (ended c.args.state.now.encounter c.args.state.now.journal) c.loop-own.own c.from.result c.loop-own.list c.ended.result
    (omega (arith, c.crafts-own-end.ensures.few, c.loop-own-test.true)) c.from.ensures c.ended.ensures c.loop-own.invariant

pub returns : goal.returns
returns c =
    let e = c.args.state.now.encounter in
    let all : c.loop-own.own ≡ length e.crafts = omega (arith, c.crafts-own-end.ensures.value, c.loop-own.auto.own-end, c.loop-own-test.false) in
    subst (λ n. AreSenses (ended e c.args.state.now.journal) n c.loop-own.list) all c.loop-own.invariant
