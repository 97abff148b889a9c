use Rattle.std.proofs.Common.{arith, ap, get_or}
use Rattle.acas_base.specs.Encounter.{AreApart}
use Rattle.acas_base.proofs.Apart.{apart-more, apart-new}
use Rattle.acas_base.proofs.checks.are_apart.Goals as goal

pub loop-i-preserved : goal.loop-i-preserved
loop-i-preserved c =
    let crafts = c.args.crafts.now in
    let i = c.loop-i.i in
    let x = get_or crafts i c.index-crafts-i.result in
    apart-more AreApart crafts i x (omega arith) (ap (get_or crafts i) c.index-crafts-i.is) c.loop-i.invariant (c.is_new.ensures.0 c.if-not-is_new.false)

pub returns-then-not-is_new : goal.returns-then-not-is_new
returns-then-not-is_new c =
    let crafts = c.args.crafts.now in
    let i = c.loop-i.i in
    let x = get_or crafts i c.index-crafts-i.result in
    let new = apart-new AreApart crafts i x (omega arith) (ap (get_or crafts i) c.index-crafts-i.is) in
    (λ e. cc e, λ apart. absurd (cc (c.is_new.ensures.1 (new apart), c.if-not-is_new.true)))
