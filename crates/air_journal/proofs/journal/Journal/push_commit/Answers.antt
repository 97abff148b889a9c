use Rattle.std.proofs.Common.{◌≡◌, ℕ, ◌<◌, [], ◌∷◌, ◌++◌, ◌*◌, ◌≤◌, length, set, sym, ap, ◌∙◌, subst}
use Rattle.acas_base.specs.declared.entry.Entry.TheVariants as kinds
use Rattle.air_journal.proofs.Writing.{push-commit, row-within}
use Rattle.air_journal.proofs.journal.Journal.push_commit.Goals as goal
use Rattle.air_journal.specs.Cells.{commit_cells}
use Rattle.air_journal.specs.Written.{Written, entries_in}
use Rattle.air_journal.specs.declared.log.Note.TheVariants.{Commit}

pub returns-clause-entries : goal.returns-clause-entries
returns-clause-entries c =
    let items = c.self.inside.cells.items in
    let notes = c.self.inside.log.notes in
    let w = c.self.inside.crafts in
    let crafts : w ≡ c.args.self.now.crafts = ap (λ (x : Written). x.crafts) c.self.view_is in
    let places : length items ≡ c.args.self.now.places = ap (λ (x : Written). x.places) c.self.view_is in
    let own : c.args.own < w = subst (λ (n : ℕ). c.args.own < n) (sym crafts) c.requires.own in
    let last : c.args.cycle * w ≤ length items = rw (crafts, places) c.requires.last in
    ap (entries_in w (set items c.place_in.result c.args.cells.now)) c.push.ensures.notes
    ∙ ap (λ (k : ℕ). entries_in w (set items k c.args.cells.now) (notes ++ Commit c.args.own c.args.cycle ∷ [])) c.place_in.ensures
    ∙ push-commit w items notes c.args.own c.args.cycle c.args.cells.now own c.requires.first (row-within w c.args.own c.args.cycle (length items) own c.requires.first last) c.self.invariant
    (ap (λ (x : Written). commit_cells x.entries c.args.own c.args.cycle) c.self.view_is ∙ c.requires.new)
    ∙ ap (λ (x : Written). kinds.Commit c.args.own c.args.cycle c.args.cells.now ∷ x.entries) c.self.view_is
