use Rattle.std.proofs.Common.{◌≡◌, ℕ, ◌+◌, ◌<◌, ◌≤◌, true, get_or, sym, ap, subst, arith}
use Rattle.acas_base.specs.declared.TheConstants.{CRAFTS}
use Rattle.air_journal.proofs.Adding.{CommitFits, commit-fits, committed-whole, may-commit}
use Rattle.air_journal.proofs.Bounds.{active-is, below, below-all}
use Rattle.air_journal.proofs.Past.{same-past}
use Rattle.air_journal.proofs.Telling.{ages, count-is}
use Rattle.air_journal.specs.Airs.{air_of}
use Rattle.air_journal.specs.Calls.{Committed, IsFree}
use Rattle.acas_base.specs.declared.advisory.Cell.{Cell}
use Rattle.air_journal.specs.Kept.{IsSamePast, link_at, made_at}
use Rattle.air_journal.specs.Pictures.{IsEnough, Suffices}
use Rattle.air_journal.specs.declared.kept.Link.{Link}
use Rattle.air_journal.specs.States.{IsWhole, State}
use Rattle.air_rules.specs.Air.{is_active}
use Rattle.air_rules.specs.Journal.{commits}
use Rattle.craft_view.specs.Kept.{IsActive}
use Rattle.air_journal.proofs.state.AirState.add_commit.Goals as goal
use Rattle.air_journal.proofs.state.AirState.add_commit.Goals.{After-commit, After-len-position, After-next_cells-cells}
use Rattle.craft_view.specs.Views.{view_of}
use Rattle.air_journal.proofs.Bounds.{fits, most-few}

active : (c : After-len-position) → is_active (air_of c.self.inside.encounter) c.args.own ≡ true
active c = active-is c.self.inside.encounter c.args.own (subst (λ (s : State). IsActive s.encounter c.args.own) (sym c.self.view_is) c.requires.active)

own : (c : After-len-position) → c.args.own < CRAFTS
own c = below-all c.self.inside.encounter c.self.invariant.whole.is_journal.valid c.args.own (active c)

free : (c : After-len-position) → IsFree (air_of c.self.inside.encounter) c.self.inside.journal.entries c.args.own
free c = subst (λ (s : State). IsFree (air_of s.encounter) s.journal c.args.own) (sym c.self.view_is) c.requires.free

count : (c : After-len-position) → (made_at c.self.inside.tables c.args.own).commits ≡ commits c.self.inside.journal.entries c.args.own
count c = count-is c.self.invariant.whole c.args.own (own c)

few : (c : After-len-position) → (made_at c.self.inside.tables c.args.own).commits < 600
few c =
    let n = count c in
    let left : commits c.self.inside.journal.entries c.args.own < c.self.inside.encounter.cycles = (free c).left in
    let k : c.self.inside.encounter.cycles ≤ 600 = c.self.invariant.whole.is_journal.valid.run.length.1 in
    omega arith

fit : (c : After-next_cells-cells) → (p : After-len-position) → is_active (air_of c.self.inside.encounter) c.args.own ≡ true → IsFree (air_of c.self.inside.encounter) c.self.inside.journal.entries c.args.own → CommitFits c.self.inside.encounter c.self.inside.journal c.self.inside.tables c.args.own
fit c p a f = commit-fits c.self.invariant.whole c.args.own c.next_cells-cells.result a f c.next_cells-cells.ensures

pub overflow_cast-position : goal.overflow_cast-position
overflow_cast-position c =
    let h = c.self.invariant.whole in
    omega (arith, fits c.self.inside.encounter c.self.inside.journal.entries h.is_journal.valid h.is_journal.legal, most-few c.self.inside.encounter h.is_journal.valid, c.len-position.ensures)

pub made-cycle-requires : goal.made-cycle-requires
made-cycle-requires c = own (goal.at.made-cycle-requires c).After-len-position

pub overflow_add-cycle : goal.overflow_add-cycle
overflow_add-cycle c = omega (arith, few (goal.at.overflow_add-cycle c).After-len-position, ap (λ m. m.commits) c.made-cycle.ensures)

pub next_cells-cells-requires-clause-own : goal.next_cells-cells-requires-clause-own
next_cells-cells-requires-clause-own c = below c.self.inside.encounter c.self.invariant.whole.is_journal.valid c.args.own (active (goal.at.next_cells-cells-requires-clause-own c).After-len-position)

pub next_cells-cells-requires-clause-made : goal.next_cells-cells-requires-clause-made
next_cells-cells-requires-clause-made c = few (goal.at.next_cells-cells-requires-clause-made c).After-len-position

pub next_cells-cells-requires-clause-picture : goal.next_cells-cells-requires-clause-picture
next_cells-cells-requires-clause-picture c = λ other d few.
    let p = (goal.at.next_cells-cells-requires-clause-picture c).After-len-position in
    let e = c.self.inside.encounter in
    let enough = subst (λ (s : State). Suffices s.encounter s.journal c.args.own c.args.pic.now) (sym c.self.view_is) c.requires.picture other d few in
    subst (λ (n : ℕ). IsEnough (link_at c.self.inside.tables c.args.own other).cell (view_of e c.args.own other (n + 1)) (get_or c.args.pic.now.views other d)) (sym (count p))
    (subst (λ (b : Cell). IsEnough b (view_of e c.args.own other (commits c.self.inside.journal.entries c.args.own + 1)) (get_or c.args.pic.now.views other d))
    (sym (ap (λ (l : Link). l.cell) (c.self.invariant.whole.kept.link c.args.own other (own p) few))) enough)

pub next_cells-cells-requires-clause-age : goal.next_cells-cells-requires-clause-age
next_cells-cells-requires-clause-age c =
    let p = (goal.at.next_cells-cells-requires-clause-age c).After-len-position in
    λ j it hj e. ages c.self.invariant.whole c.args.own (own p) (free p).left j it hj e

pub push_commit-requires-clause-own : goal.push_commit-requires-clause-own
push_commit-requires-clause-own c =
    let p = (goal.at.push_commit-requires-clause-own c).After-len-position in
    (fit (goal.at.push_commit-requires-clause-own c).After-next_cells-cells p (active p) (free p)).seat

pub push_commit-requires-clause-last : goal.push_commit-requires-clause-last
push_commit-requires-clause-last c =
    let p = (goal.at.push_commit-requires-clause-last c).After-len-position in
    let f = fit (goal.at.push_commit-requires-clause-last c).After-next_cells-cells p (active p) (free p) in
    rw c.made-cycle.ensures f.places

pub push_commit-requires-clause-new : goal.push_commit-requires-clause-new
push_commit-requires-clause-new c =
    let p = (goal.at.push_commit-requires-clause-new c).After-len-position in
    rw c.made-cycle.ensures (fit (goal.at.push_commit-requires-clause-new c).After-next_cells-cells p (active p) (free p)).new

pub push_commit-requires-clause-room : goal.push_commit-requires-clause-room
push_commit-requires-clause-room c =
    let p = (goal.at.push_commit-requires-clause-room c).After-len-position in
    (fit (goal.at.push_commit-requires-clause-room c).After-next_cells-cells p (active p) (free p)).room

pub commit-requires-clause-own : goal.commit-requires-clause-own
commit-requires-clause-own c = own (goal.at.commit-requires-clause-own c).After-len-position

pub commit-requires-clause-commits : goal.commit-requires-clause-commits
commit-requires-clause-commits c = few (goal.at.commit-requires-clause-commits c).After-len-position

pub commit-requires-clause-past : goal.commit-requires-clause-past
commit-requires-clause-past c =
    subst (IsSamePast c.self.inside.tables.links c.args.own c.next_cells-cells.result) (sym c.count_of-count.ensures.value)
    (same-past c.self.invariant.whole c.args.own c.next_cells-cells.result (own (goal.at.commit-requires-clause-past c).After-len-position) c.next_cells-cells.ensures)

pub commit-requires-clause-size : goal.commit-requires-clause-size
commit-requires-clause-size c = c.next_cells-cells.ensures.size

whole : (c : After-commit) → is_active (air_of c.self.inside.encounter) c.args.own ≡ true → IsFree (air_of c.self.inside.encounter) c.self.inside.journal.entries c.args.own → IsWhole c.self.inside.encounter c.push_commit.new.self c.commit.new.self
whole c a f = committed-whole c.self.invariant.whole c.args.own (c.made-cycle.result.commits + 1) c.next_cells-cells.result c.has_many-many.result a f (ap (λ m. m.commits + 1) c.made-cycle.ensures) c.next_cells-cells.ensures c.has_many-many.ensures
    (record { entries = c.push_commit.ensures.entries; room = c.push_commit.ensures.room; crafts = c.push_commit.ensures.crafts; places = c.push_commit.ensures.places }) c.commit.ensures

pub invariant_of-self : goal.invariant_of-self
invariant_of-self c = let p = (goal.at.invariant_of-self c).After-len-position in record { usual = c.self.invariant.usual; whole = whole c (active p) (free p) }

pub returns-clause-commits : goal.returns-clause-commits
returns-clause-commits c =
    let p = (goal.at.returns-clause-commits c).After-len-position in
    subst (λ (s : State). Committed (air_of s.encounter) s.journal c.args.own c.push_commit.new.self.entries c.len-position.result) c.self.view_is
    (record {
      position_is = c.len-position.ensures;
      cycle = c.made-cycle.result.commits + 1;
      cells = c.next_cells-cells.result;
      allowed = may-commit c.self.invariant.whole c.args.own (c.made-cycle.result.commits + 1) c.next_cells-cells.result (active p) (free p) (ap (λ m. m.commits + 1) c.made-cycle.ensures) c.next_cells-cells.ensures;
      new_is = c.push_commit.ensures.entries;
    })

pub returns-clause-legal : goal.returns-clause-legal
returns-clause-legal c = let p = (goal.at.returns-clause-legal c).After-len-position in (whole c (active p) (free p)).is_journal.legal
