use Rattle.std.proofs.Common.{◌≡◌, ℕ, ◌<◌, true, sym, ap, ◌∙◌, subst, arith}
use Rattle.acas_base.specs.declared.TheConstants.{CRAFTS}
use Rattle.air_journal.proofs.Bounds.{active-is, below, below-all, few-crafts}
use Rattle.air_journal.proofs.Telling.{all-ordered, count-is, first-behind-is, first-owed, found-first, none-due, not-ahead, owes-nothing}
use Rattle.air_journal.specs.Airs.{air_of}
use Rattle.air_journal.specs.Calls.{Hinders, IsFree}
use Rattle.air_journal.specs.Found.{IsLeast, NoneOf}
use Rattle.air_journal.specs.States.{State}
use Rattle.air_rules.specs.Air.{is_active}
use Rattle.air_rules.specs.Journal.{commits}
use Rattle.craft_view.specs.Kept.{IsActive}
use Rattle.air_journal.specs.declared.answers.Commit.TheVariants as commit
use Rattle.air_rules.proofs.Waiting.{commits-within}
use Rattle.air_journal.proofs.state.AirState.hindrance.Goals as goal
use Rattle.air_journal.proofs.state.AirState.hindrance.Goals.{After-made-made, After-self}

active : (c : After-self) → is_active (air_of c.self.inside.encounter) c.args.own ≡ true
active c = active-is c.self.inside.encounter c.args.own (subst (λ (s : State). IsActive s.encounter c.args.own) (sym c.self.view_is) c.requires)

own : (c : After-self) → c.args.own < CRAFTS
own c = below-all c.self.inside.encounter c.self.invariant.whole.is_journal.valid c.args.own (active c)

count : (c : After-made-made) → c.args.own < CRAFTS → c.made-made.result.commits ≡ commits c.self.inside.journal.entries c.args.own
count c hi = ap (λ m. m.commits) c.made-made.ensures ∙ count-is c.self.invariant.whole c.args.own hi

pub returns-then-made-cycles : goal.returns-then-made-cycles
returns-then-made-cycles c =
    let h = c.self.invariant.whole in
    let n = count (goal.at.returns-then-made-cycles c).After-made-made (own (goal.at.returns-then-made-cycles c).After-self) in
    let few = commits-within (air_of c.self.inside.encounter) c.self.inside.journal.entries h.is_journal.legal c.args.own in
    let e : commits c.self.inside.journal.entries c.args.own ≡ c.self.inside.encounter.cycles = omega (arith, c.cycles.ensures.value) in
    subst (λ (s : State). commits s.journal c.args.own ≡ s.encounter.cycles) c.self.view_is e

pub first_owed-requires : goal.first_owed-requires
first_owed-requires c = below c.self.inside.encounter c.self.invariant.whole.is_journal.valid c.args.own (active (goal.at.first_owed-requires c).After-self)

pub returns-in-Some : goal.returns-in-Some
returns-in-Some c =
    let h = c.self.invariant.whole in
    let hi = own (goal.at.returns-in-Some c).After-self in
    let n = count (goal.at.returns-in-Some c).After-made-made hi in
    let left : commits c.self.inside.journal.entries c.args.own < c.self.inside.encounter.cycles = omega (arith, c.cycles.ensures.value) in
    subst (λ (s : State). Hinders (air_of s.encounter) s.journal c.args.own (commit.Owed c.in-Some.owing.target)) c.self.view_is
    (record { left = left; message = c.in-Some.owing.message; first_owed = first-owed h c.args.own c.in-Some.owing.target c.in-Some.owing.message hi c.in-Some.ensures })

pub first_due_to-requires-clause-own : goal.first_due_to-requires-clause-own
first_due_to-requires-clause-own c = own (goal.at.first_due_to-requires-clause-own c).After-self

pub first_due_to-requires-clause-ordered : goal.first_due_to-requires-clause-ordered
first_due_to-requires-clause-ordered c = λ b hb. all-ordered c.self.invariant.whole c.args.own b (own (goal.at.first_due_to-requires-clause-ordered c).After-self) (omega (arith, few-crafts c.self.inside.encounter c.self.invariant.whole.is_journal.valid, c.count_of.ensures.value))

pub returns-in-Some-first_due_to : goal.returns-in-Some-first_due_to
returns-in-Some-first_due_to c =
    let h = c.self.invariant.whole in
    let hi = own (goal.at.returns-in-Some-first_due_to c).After-self in
    let n = count (goal.at.returns-in-Some-first_due_to c).After-made-made hi in
    let left : commits c.self.inside.journal.entries c.args.own < c.self.inside.encounter.cycles = omega (arith, c.cycles.ensures.value) in
    let l = subst (λ (k : ℕ). IsLeast c.self.inside.tables c.args.own c.made-made.result.commits k c.in-Some-first_due_to.found) c.count_of.ensures.value c.in-Some-first_due_to.ensures in
    subst (λ (s : State). Hinders (air_of s.encounter) s.journal c.args.own (commit.Due c.in-Some-first_due_to.found.waiting.send c.in-Some-first_due_to.found.waiting.copy)) c.self.view_is
    (record { left = left; owes_nothing = owes-nothing h c.args.own hi c.in_default.ensures; first_due = found-first h c.args.own c.made-made.result.commits c.in-Some-first_due_to.found hi n l })

pub returns-in-Some-first_behind : goal.returns-in-Some-first_behind
returns-in-Some-first_behind c =
    let h = c.self.invariant.whole in
    let hi = own (goal.at.returns-in-Some-first_behind c).After-self in
    let n = count (goal.at.returns-in-Some-first_behind c).After-made-made hi in
    let left : commits c.self.inside.journal.entries c.args.own < c.self.inside.encounter.cycles = omega (arith, c.cycles.ensures.value) in
    let none = subst (λ (k : ℕ). NoneOf c.self.inside.tables c.args.own c.made-made.result.commits k) c.count_of.ensures.value c.in_default-first_due_to.ensures in
    let b = first-behind-is h c.args.own c.made-made.result.commits c.in-Some-first_behind.behind n c.in-Some-first_behind.ensures in
    subst (λ (s : State). Hinders (air_of s.encounter) s.journal c.args.own (commit.Ahead c.in-Some-first_behind.behind.craft c.in-Some-first_behind.behind.commits)) c.self.view_is
    (record { left = left; owes_nothing = owes-nothing h c.args.own hi c.in_default.ensures; nothing_due = none-due h c.args.own c.made-made.result.commits hi n none; first_behind = b.0; count_is = b.1 })

pub returns : goal.returns
returns c =
    let h = c.self.invariant.whole in
    let hi = own (goal.at.returns c).After-self in
    let n = count (goal.at.returns c).After-made-made hi in
    let left : commits c.self.inside.journal.entries c.args.own < c.self.inside.encounter.cycles = omega (arith, c.cycles.ensures.value) in
    let none = subst (λ (k : ℕ). NoneOf c.self.inside.tables c.args.own c.made-made.result.commits k) c.count_of.ensures.value c.in_default-first_due_to.ensures in
    subst (λ (s : State). IsFree (air_of s.encounter) s.journal c.args.own) c.self.view_is
    (record { left = left; owes_nothing = owes-nothing h c.args.own hi c.in_default.ensures; nothing_due = none-due h c.args.own c.made-made.result.commits hi n none; not_ahead = not-ahead h c.args.own c.made-made.result.commits n c.in_default-first_behind.ensures })
