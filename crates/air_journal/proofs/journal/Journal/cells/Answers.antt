use Rattle.std.proofs.Common.{ℕ, ◌<◌, length, get_or, Some, is_some, sym, ap, ◌∙◌, subst, arith}
use Rattle.std.proofs.lemmas.List.{get_or_read}
use Rattle.air_journal.proofs.Writing.{Found, found-some}
use Rattle.air_journal.proofs.journal.Journal.cells.Goals as goal
use Rattle.air_journal.proofs.journal.Journal.cells.Goals.{After-self}
use Rattle.air_journal.specs.Cells.{clear_cells, commit_cells}
use Rattle.air_journal.specs.Written.{Written, place_in}

found : (c : After-self) → Found c.self.inside.crafts c.self.inside.cells.items c.self.inside.log.notes c.args.own c.args.cycle
found c = found-some c.self.inside.crafts c.self.inside.cells.items c.self.inside.log.notes c.args.own c.args.cycle c.self.invariant (ap (λ (w : Written). is_some (commit_cells w.entries c.args.own c.args.cycle)) c.self.view_is ∙ c.requires)

pub place_in-requires : goal.place_in-requires
place_in-requires c = (found c).stands.begun

pub index-requires : goal.index-requires
index-requires c =
    let f = found (goal.at.index-requires c).After-self in
    let h : place_in c.self.inside.crafts c.args.own c.args.cycle < length c.self.inside.cells.items = f.stands.within in
    omega (arith, c.place_in.ensures, c.self.inside.cells.ok.0)

pub returns : goal.returns
returns c =
    let f = found (goal.at.returns c).After-self in
    let h : place_in c.self.inside.crafts c.args.own c.args.cycle < length c.self.inside.cells.items = f.stands.within in
    let k : c.place_in.result < length c.self.inside.cells.items = subst (λ (n : ℕ). n < length c.self.inside.cells.items) (sym c.place_in.ensures) h in
    sym (ap (λ (w : Written). commit_cells w.entries c.args.own c.args.cycle) c.self.view_is) ∙ f.is
    ∙ ap Some (sym f.stands.here ∙ ap (λ n. get_or c.self.inside.cells.items n clear_cells) (sym c.place_in.ensures) ∙ sym (get_or_read c.self.inside.cells.items c.place_in.result c.index.result.now k c.index.ensures clear_cells))
