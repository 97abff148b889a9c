use Rattle.std.proofs.Common.{length, sym, ap, ◌∙◌}
use Rattle.air_journal.specs.Pages.{Noted}
use Rattle.air_journal.proofs.Paging.{paged-length}
use Rattle.air_journal.proofs.log.Log.len.Goals as goal

pub returns : goal.returns
returns c = sym (paged-length c.self.inside.pages.items c.self.inside.count c.self.invariant.filled) ∙ ap (λ (l : Noted). length l.notes) c.self.view_is
