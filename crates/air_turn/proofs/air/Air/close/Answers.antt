use Rattle.std.proofs.Common.{ap, sym, ◌∙◌, subst, rules}
use Rattle.std.specs.List.Sorted.{IsPermutation}
use Rattle.air_journal.specs.Airs.{air_of}
use Rattle.air_rules.specs.Rules.{IsLegal}
use Rattle.air_turn.specs.Rule.{active_of}
use Rattle.air_turn.specs.Seats.{SharedAir, owns_of}
use Rattle.air_turn.proofs.Closed.{closed-as, closed-some, closed-state, some-seats}
use Rattle.air_turn.proofs.air.Air.close.Goals as goal

pub gather-place-requires-clause-some : goal.gather-place-requires-clause-some
gather-place-requires-clause-some c =
    let e = c.self.inside.table.shared.key.value.encounter in
    some-seats e c.args.seats.items c.self.invariant.valid (subst (λ (z : SharedAir). IsPermutation (owns_of c.args.seats.items) (active_of z.encounter)) (sym c.self.view_is) c.requires.owns) _ (search rules)

pub unreachable-requires : goal.unreachable-requires
unreachable-requires c =
    let e = c.self.inside.table.shared.key.value.encounter in
    let owns = subst (λ (z : SharedAir). IsPermutation (owns_of c.args.seats.items) (active_of z.encounter)) (sym c.self.view_is) c.requires.owns in
    closed-some e c.take-slot.result c.args.seats.items (closed-as e _ c.self.inside.table.shared.table_id c.gather-place.result.me _ _ _ c.take-slot.result c.close_with-closed.ensures.values.2 c.gather-place.ensures.gathers owns c.take-slot.ensures.value) c.in_default.is

pub returns-clause-encounter : goal.returns-clause-encounter
returns-clause-encounter c =
    let e = c.self.inside.table.shared.key.value.encounter in
    let owns = subst (λ (z : SharedAir). IsPermutation (owns_of c.args.seats.items) (active_of z.encounter)) (sym c.self.view_is) c.requires.owns in
    (closed-state e c.in-Some.state c.take-slot.result c.args.seats.items (closed-as e _ c.self.inside.table.shared.table_id c.gather-place.result.me _ _ _ c.take-slot.result c.close_with-closed.ensures.values.2 c.gather-place.ensures.gathers owns c.take-slot.ensures.value) c.in-Some.is).0 ∙ ap (λ (z : SharedAir). z.encounter) c.self.view_is

pub returns-clause-legal : goal.returns-clause-legal
returns-clause-legal c =
    let e = c.self.inside.table.shared.key.value.encounter in
    let owns = subst (λ (z : SharedAir). IsPermutation (owns_of c.args.seats.items) (active_of z.encounter)) (sym c.self.view_is) c.requires.owns in
    let closed = closed-state e c.in-Some.state c.take-slot.result c.args.seats.items (closed-as e _ c.self.inside.table.shared.table_id c.gather-place.result.me _ _ _ c.take-slot.result c.close_with-closed.ensures.values.2 c.gather-place.ensures.gathers owns c.take-slot.ensures.value) c.in-Some.is in
    subst (λ (z : SharedAir). IsLegal (air_of z.encounter) c.in-Some.state.journal) c.self.view_is closed.1.legal

pub returns-clause-closes : goal.returns-clause-closes
returns-clause-closes c =
    let e = c.self.inside.table.shared.key.value.encounter in
    let owns = subst (λ (z : SharedAir). IsPermutation (owns_of c.args.seats.items) (active_of z.encounter)) (sym c.self.view_is) c.requires.owns in
    (closed-state e c.in-Some.state c.take-slot.result c.args.seats.items (closed-as e _ c.self.inside.table.shared.table_id c.gather-place.result.me _ _ _ c.take-slot.result c.close_with-closed.ensures.values.2 c.gather-place.ensures.gathers owns c.take-slot.ensures.value) c.in-Some.is).2
