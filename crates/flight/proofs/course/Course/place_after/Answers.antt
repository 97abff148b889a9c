use Rattle.std.proofs.Common.{◌∙◌, ◌+◌, ◌-◌, ap, arith, get_or, rules, subst, sym}
use Rattle.flight.proofs.Along.{reach}
use Rattle.flight.proofs.Stepping.{HaveBegun, no-leg, step-none, step-on}
use Rattle.flight.specs.Bounds.{IsReachable, flown}
use Rattle.flight.proofs.course.Course.place_after.Goals as goal

pub returns-then-begun-eq0-clause-value : goal.returns-then-begun-eq0-clause-value
returns-then-begun-eq0-clause-value c =
    let self = c.args.self.now in
    let none : HaveBegun self.legs.now c.args.cycle 0 = subst (HaveBegun self.legs.now c.args.cycle) c.if-begun-eq0.true c.count_begun-begun.ensures.parted in
    c.requires.place ∙ step-none self.start self.legs.now c.args.cycle self.ordered none c.requires.cycle.0

pub returns-then-begun-eq0-clause-bounds : goal.returns-then-begun-eq0-clause-bounds
returns-then-begun-eq0-clause-bounds c =
    let self = c.args.self.now in
    subst IsReachable (sym c.requires.place) (reach self.start self.legs.now c.args.cycle self.near self.ordered c.requires.cycle.1)

pub flown-requires-clause-place : goal.flown-requires-clause-place
flown-requires-clause-place c =
    let self = c.args.self.now in
    subst IsReachable (sym c.requires.place) (reach self.start self.legs.now c.args.cycle self.near self.ordered c.requires.cycle.1)

pub returns-clause-value : goal.returns-clause-value
returns-clause-value c =
    let self = c.args.self.now in
    let n = c.count_begun-begun.result in
    let leg = get_or self.legs.now (n - 1) no-leg in
    c.flown.ensures ∙ ap (λ p. flown p leg 1) c.requires.place
    ∙ step-on self.start self.legs.now c.args.cycle n no-leg self.ordered c.count_begun-begun.ensures.parted (search rules) c.count_begun-begun.ensures.bound c.requires.cycle.0

pub returns-clause-bounds : goal.returns-clause-bounds
returns-clause-bounds c =
    let self = c.args.self.now in
    subst IsReachable (sym (returns-clause-value c)) (reach self.start self.legs.now (c.args.cycle + 1) self.near self.ordered (omega arith))
