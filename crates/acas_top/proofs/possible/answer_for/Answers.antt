use Rattle.std.proofs.Common.{◌<◌, length, subst, sym}
use Rattle.acas_base.specs.Encounter.{Parts}
use Rattle.air_journal.proofs.Bounds.{below}
use Rattle.air_journal.specs.Airs.{air_of}
use Rattle.air_rules.proofs.Pace.{active-ra}
use Rattle.air_rules.specs.Rules.{IsComplete}
use Rattle.pair_ways.specs.declared.ways.TooMany.{TooMany}
use Rattle.possibilities.specs.Rows.{IsPastBound, IsStop}
use Rattle.acas_top.proofs.possible.answer_for.Goals as goal

pub of-requires : goal.of-requires
of-requires c = subst (λ (e : Parts). IsComplete (air_of e) c.in_ok-state.state.journal) (sym c.in_ok-state.ensures.encounter) c.in_ok-state.ensures.run.complete

pub bound_line-requires-clause-low : goal.bound_line-requires-clause-low
bound_line-requires-clause-low c =
    let e = c.args.encounter.now in
    let past = subst (λ (d : Parts). IsPastBound c.args.scope d c.in-Err-TooMany.stop) c.in_ok-state.ensures.encounter (subst (IsStop c.args.scope c.in_ok-state.state.encounter) c.in-Err-TooMany.field-0-is c.in-Err-TooMany.ensures.stop) in
    subst (λ (s : TooMany). s.low < length e.crafts) (sym c.in-Err-TooMany.stop-is) (below e c.valid_law.ensures c.in-Err-TooMany.stop.low (active-ra (air_of e) c.in-Err-TooMany.stop.low past.two.low_resolves))

pub bound_line-requires-clause-high : goal.bound_line-requires-clause-high
bound_line-requires-clause-high c =
    let e = c.args.encounter.now in
    let past = subst (λ (d : Parts). IsPastBound c.args.scope d c.in-Err-TooMany.stop) c.in_ok-state.ensures.encounter (subst (IsStop c.args.scope c.in_ok-state.state.encounter) c.in-Err-TooMany.field-0-is c.in-Err-TooMany.ensures.stop) in
    subst (λ (s : TooMany). s.high < length e.crafts) (sym c.in-Err-TooMany.stop-is) (below e c.valid_law.ensures c.in-Err-TooMany.stop.high (active-ra (air_of e) c.in-Err-TooMany.stop.high past.two.high_resolves))
