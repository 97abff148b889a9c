use Rattle.std.proofs.Common.{◌∙◌, ap, length}
use Rattle.acas_base.specs.Encounter.{Parts}
use Rattle.rec_audit.proofs.Making.{newest-at}
use Rattle.rec_text.specs.Entries.{entry_line}
use Rattle.rec_audit.proofs.allowed.allowed_line.Goals as goal

pub returns : goal.returns
returns c =
    let a = c.add_allowed.ensures.added in
    record {
      some = record { entry = a.entry; about_is = a.about_is; allowed = a.allowed };
      line_is = c.line_of_entry.ensures a.entry (newest-at c.args.state.now.journal c.add_allowed.new.state.journal a.entry c.count-at.result a.new_is c.count-at.ensures.value)
          ∙ ap (λ (e : Parts). entry_line (length e.crafts) a.entry) c.add_allowed.ensures.encounter;
    }
