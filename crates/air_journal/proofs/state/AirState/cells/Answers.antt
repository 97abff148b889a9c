use Rattle.std.proofs.Common.{◌≡◌, ◌<◌, ◌≤◌, is_some, sym, ap, ◌∙◌, arith, inl, inr}
use Rattle.air_journal.proofs.Adding.{no-cells, some-cells}
use Rattle.air_journal.proofs.state.AirState.cells.Goals as goal
use Rattle.air_journal.specs.Airs.{air_of}
use Rattle.air_journal.specs.States.{State}
use Rattle.air_rules.specs.Journal.{commits}

pub returns-then-cycle-eq0 : goal.returns-then-cycle-eq0
returns-then-cycle-eq0 c =
    let z : c.args.cycle ≡ 0 = omega arith in
    sym (no-cells (air_of c.args.self.now.encounter) c.args.self.now.journal c.legal_law.ensures.legal c.args.own c.args.cycle (inl z))

pub returns-then-commits-cycle : goal.returns-then-commits-cycle
returns-then-commits-cycle c =
    let z : commits c.args.self.now.journal c.args.own < c.args.cycle = omega (arith, c.commits.ensures) in
    sym (no-cells (air_of c.args.self.now.encounter) c.args.self.now.journal c.legal_law.ensures.legal c.args.own c.args.cycle (inr z))

pub cells-requires : goal.cells-requires
cells-requires c =
    let h = c.self.invariant.whole in
    let n : c.commits.result ≡ commits c.self.inside.journal.entries c.args.own = c.commits.ensures ∙ sym (ap (λ (s : State). commits s.journal c.args.own) c.self.view_is) in
    let few : c.args.cycle ≤ commits c.self.inside.journal.entries c.args.own = omega arith in
    ap is_some (some-cells (air_of c.self.inside.encounter) c.self.inside.journal.entries h.is_journal.legal c.args.own c.args.cycle (omega arith) few).1
