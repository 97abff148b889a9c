use Rattle.std.proofs.Common.{◌<◌, length, ap, sym, ◌∙◌, arith}
use Rattle.std.specs.List.{list_any}
use Rattle.flight.proofs.Missing.{covered-at, covered-none}
use Rattle.flight.specs.Measurement.{covers}
use Rattle.flight.proofs.misses.is_missed.Goals as goal

pub returns-then-first-misses : goal.returns-then-first-misses
returns-then-first-misses c =
    let a = c.args in
    let misses = c.misses-misses.result.now in
    sym (covered-none misses a.own a.target a.cycle c.count_over-first.result c.count_over-first.ensures.parted (omega arith))
    ∙ ap (list_any (covers a.own a.target a.cycle)) c.misses-misses.ensures.value

pub returns : goal.returns
returns c =
    let a = c.args in
    let misses = c.misses-misses.result.now in
    let listed = rw (← c.misses-misses.ensures.value) at c.misses-misses.ensures.valid.records.misses in
    let within : c.count_over-first.result < length misses = omega (arith, c.count_over-first.ensures.bound, c.if-first-misses.false) in
    c.covers.ensures
    ∙ covered-at misses a.own a.target a.cycle c.count_over-first.result _ listed.1 (λ k d h. (listed.0 k d h).order) c.count_over-first.ensures.parted within
    ∙ ap (list_any (covers a.own a.target a.cycle)) c.misses-misses.ensures.value
