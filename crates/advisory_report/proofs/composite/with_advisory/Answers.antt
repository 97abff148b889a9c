use Rattle.std.proofs.Common.{◌∙◌, arith}
use Rattle.advisory_report.proofs.Adding.{first-law, stronger-law, weaker-law, equal-law}
use Rattle.advisory_report.proofs.composite.with_advisory.Goals as goal

pub returns-in_default : goal.returns-in_default
returns-in_default c cells e = c.alone.ensures ∙ first-law c.args.advice cells c.args.advisory.now e c.in_default.is

pub returns-then-one-other : goal.returns-then-one-other
returns-then-one-other c cells e = c.alone-then-one-other.ensures ∙ stronger-law c.args.advice cells c.args.advisory.now c.in-Some.strongest e c.in-Some.is (omega (arith, c.place-one.ensures.value, c.place-other.ensures.value, c.if-one-other.true))

pub returns-then-other-one : goal.returns-then-other-one
returns-then-other-one c cells e = weaker-law c.args.advice cells c.args.advisory.now c.in-Some.strongest e c.in-Some.is (omega (arith, c.place-one.ensures.value, c.place-other.ensures.value, c.if-other-one.true))

pub returns : goal.returns
returns c cells e = c.with_equal.ensures ∙ equal-law c.args.advice cells c.args.advisory.now c.in-Some.strongest e c.in-Some.is (omega (arith, c.place-one.ensures.value, c.place-other.ensures.value, c.if-one-other.false, c.if-other-one.false))
