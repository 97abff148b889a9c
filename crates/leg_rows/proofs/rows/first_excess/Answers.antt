use Rattle.std.proofs.Common.{◌≡◌, ◌+◌, ◌∙◌, ap, arith, inl, inr, subst}
use Rattle.std.proofs.lemmas.Bool.{cases_lt}
use Rattle.leg_rows.specs.Rows.{AreLegRates, rates_from}
use Rattle.leg_rows.proofs.rows.first_excess.Goals as goal

pub loop-second-preserved : goal.loop-second-preserved
loop-second-preserved c cycle first last = elim (cases_lt c.loop-second.second cycle) [
  | inl h ↦
      let same : c.loop-second.second + 1 ≡ cycle = omega arith in
      subst AreLegRates (c.rates_from.ensures ∙ ap (rates_from c.args.places.now) same) (c.fit.ensures.0 c.if-not-fit.false)
  | inr h ↦ c.loop-second.invariant cycle first h
]
