use Rattle.std.proofs.Common.{◌≡◌, ◌∙◌, ap, length, subst, sym}
use Rattle.acas_base.specs.Encounter.{Parts}
use Rattle.air_journal.proofs.Bounds.{few-crafts}
use Rattle.air_journal.specs.Airs.{air_of}
use Rattle.rec_audit.proofs.Telling.{bars-it, spelled-barred}
use Rattle.rec_audit.specs.Asking.{NothingAbout}
use Rattle.rec_audit.specs.declared.keys.Key.{Key}
use Rattle.rec_audit.proofs.here.tell_barred.Goals as goal
use Rattle.rec_audit.proofs.here.tell_barred.Goals.{After-crafts}

count : (c : After-crafts) → length c.crafts.result.now ≡ length c.args.state.now.encounter.crafts
count c = ap length (c.crafts.ensures.value ∙ ap (λ (e : Parts). e.crafts) c.enc.ensures)

pub why_barred-requires : goal.why_barred-requires
why_barred-requires c =
    let e = c.args.state.now.encounter in
    let w = c.requires.wrong in
    let read = (rw (count (goal.at.why_barred-requires c).After-crafts) at c.in-Some.ensures) w.0 w.1 w.2 in
    subst (λ (k : Key). NothingAbout (air_of e) c.args.state.now.journal k) (sym c.key_of_entry.ensures) (bars-it (air_of e) c.args.state.now.journal w.0 c.in-Some.entry (few-crafts e c.legal_law.ensures.valid) read.0 read.1 w.3)

pub unreachable-requires : goal.unreachable-requires
unreachable-requires c =
    let e = c.args.state.now.encounter in
    let w = c.requires.wrong in
    spelled-barred (air_of e) c.args.state.now.journal w.0 w.3 ((rw (count (goal.at.unreachable-requires c).After-crafts) at c.in-None.ensures) w.0 w.1 w.2)
