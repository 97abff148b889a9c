use Rattle.std.proofs.Common.{sym, ◌∙◌}
use Rattle.flight.proofs.Placing.{measurement-made, measurement-missed}
use Rattle.flight.proofs.places.Places.measure.Goals as goal

pub returns-then-is_missed-clause-value : goal.returns-then-is_missed-clause-value
returns-then-is_missed-clause-value c =
    let a = c.args in
    measurement-missed a.self.now.encounter a.own a.target a.self.now.cycle
    (sym c.is_missed.ensures ∙ c.if-is_missed.true)

pub returns-clause-value : goal.returns-clause-value
returns-clause-value c =
    let a = c.args in
    c.measured.ensures.value
    ∙ rw (c.range_between.ensures, c.place_of.ensures.value)
    (measurement-made a.self.now.encounter a.own a.target a.self.now.cycle
    (sym c.is_missed.ensures ∙ c.if-is_missed.false))
