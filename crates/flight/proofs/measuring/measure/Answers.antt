use Rattle.std.proofs.Common.{sym, ◌∙◌}
use Rattle.flight.proofs.Placing.{measurement-made, measurement-missed}
use Rattle.flight.proofs.measuring.measure.Goals as goal

pub returns-then-is_missed-clause-value : goal.returns-then-is_missed-clause-value
returns-then-is_missed-clause-value c = measurement-missed c.args.encounter.now c.args.own c.args.target c.args.cycle (sym c.is_missed.ensures ∙ c.if-is_missed.true)

pub returns-clause-value : goal.returns-clause-value
returns-clause-value c =
    c.measured.ensures.value
    ∙ rw (c.slant_range.ensures, c.position-here.ensures.value, c.position-there.ensures.value)
    (measurement-made c.args.encounter.now c.args.own c.args.target c.args.cycle (sym c.is_missed.ensures ∙ c.if-is_missed.false))
