use Rattle.std.proofs.Common.{◌≡◌, arith, inl, inr, subst}
use Rattle.std.specs.Prelude.{map}
use Rattle.std.proofs.lemmas.Bool.{cases_lt}
use Rattle.followed_advice.specs.Keeping.{GoesOn}
use Rattle.followed_advice.proofs.looks.first_leaving.Goals as goal

pub loop-own-preserved : goal.loop-own-preserved
loop-own-preserved c own within = elim (cases_lt own c.loop-own.own) [
  | inl h ↦ c.loop-own.invariant own h
  | inr h ↦
      let same : c.loop-own.own ≡ own = omega (arith, h, within) in
      subst (λ i. GoesOn c.args.flown.now (map (λ row. row.items) c.args.rows.now) i c.args.cycle) same (c.goes_on.ensures.0 c.if-not-goes_on.false)
]
