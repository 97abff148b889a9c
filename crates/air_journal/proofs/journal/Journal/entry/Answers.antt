use Rattle.std.proofs.Common.{List, reverse, slice_get, option_map, Some, sym, ap, ◌∙◌}
use Rattle.acas_base.specs.declared.advisory.Cells.{Cells}
use Rattle.air_journal.proofs.Writing.{entry-at}
use Rattle.air_journal.proofs.journal.Journal.entry.Goals as goal
use Rattle.air_journal.specs.Written.{Written, told}

pub returns-in-Some : goal.returns-in-Some
returns-in-Some c =
    ap Some (c.entry_of.ensures ∙ ap (λ (t : List Cells). told c.self.inside.crafts t c.in-Some.note.now) c.deref.ensures.value) ∙ ap (option_map (told c.self.inside.crafts c.self.inside.cells.items)) c.in-Some.ensures
    ∙ sym (entry-at c.self.inside.crafts c.self.inside.cells.items c.self.inside.log.notes c.args.at) ∙ ap (λ (w : Written). slice_get (reverse w.entries) c.args.at) c.self.view_is

pub returns-in-None : goal.returns-in-None
returns-in-None c =
    ap (option_map (told c.self.inside.crafts c.self.inside.cells.items)) c.in-None.ensures
    ∙ sym (entry-at c.self.inside.crafts c.self.inside.cells.items c.self.inside.log.notes c.args.at) ∙ ap (λ (w : Written). slice_get (reverse w.entries) c.args.at) c.self.view_is
