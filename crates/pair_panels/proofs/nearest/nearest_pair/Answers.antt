use Rattle.std.proofs.Common.{◌≡◌, suc, ◌+◌, Option, sym, ap, ap₂, ◌∙◌, subst, arith}
use Rattle.std.specs.Prelude.{IfSome}
use Rattle.pair_panels.proofs.Best.{some-nearer}
use Rattle.pair_panels.specs.Nearest.{IsPair, nearer, nearest_of, nearest_pair}
use Rattle.pair_panels.specs.declared.nearest.NearPair.{NearPair}
use Rattle.pair_panels.proofs.nearest.nearest_pair.Goals as goal

pub loop-number-preserved : goal.loop-number-preserved
loop-number-preserved c =
    let e = c.args.encounter.now in
    let n = c.loop-number.number in
    let next : suc n ≡ n + 1 = omega arith in (
      c.nearer-best.ensures ∙ ap₂ nearer c.loop-number.invariant.0 c.pair_at.ensures.value ∙ ap (nearest_of e) next,
      subst (λ (o : Option NearPair). IfSome o (IsPair e)) (sym c.nearer-best.ensures) (some-nearer (IsPair e) c.loop-number.best c.pair_at.result c.loop-number.invariant.1 c.pair_at.ensures.pair),
    )

pub returns-clause-value : goal.returns-clause-value
unfolding nearest_pair
returns-clause-value c =
    let end : c.loop-number.number ≡ 256 = (let test = c.loop-number-test.false in let most = c.loop-number.auto.number-end in omega arith) in
    c.loop-number.invariant.0 ∙ ap (nearest_of c.args.encounter.now) end
