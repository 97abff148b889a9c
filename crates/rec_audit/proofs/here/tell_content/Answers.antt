use Rattle.std.proofs.Common.{◌≡◌, ◌∙◌, ap, length, subst, sym}
use Rattle.acas_base.specs.Encounter.{Parts}
use Rattle.air_journal.proofs.Bounds.{few-crafts}
use Rattle.air_journal.specs.Airs.{air_of}
use Rattle.rec_audit.proofs.Telling.{allows-other, content-told, spelled-other}
use Rattle.rec_audit.specs.Allowing.{IsAllowedAbout}
use Rattle.rec_audit.specs.declared.keys.Key.{Key}
use Rattle.rec_audit.proofs.here.tell_content.Goals as goal
use Rattle.rec_audit.proofs.here.tell_content.Goals.{After-crafts}

count : (c : After-crafts) → length c.crafts.result.now ≡ length c.args.state.now.encounter.crafts
count c = ap length (c.crafts.ensures.value ∙ ap (λ (e : Parts). e.crafts) c.enc.ensures)

pub allowed_line-requires : goal.allowed_line-requires
allowed_line-requires c =
    let e = c.args.state.now.encounter in
    let w = c.requires.wrong in
    let read = (rw (count (goal.at.allowed_line-requires c).After-crafts) at c.in-Some.ensures) w.0 w.1 w.2 in
    record { some = subst (λ (k : Key). IsAllowedAbout (air_of e) c.args.state.now.journal k) (sym c.key_of_entry.ensures) (allows-other (air_of e) c.args.state.now.journal w.0 c.in-Some.entry (few-crafts e c.legal_law.ensures.valid) read.0 read.1 w.3) }

pub unreachable-requires : goal.unreachable-requires
unreachable-requires c =
    let e = c.args.state.now.encounter in
    let w = c.requires.wrong in
    spelled-other (air_of e) c.args.state.now.journal w.0 w.3 ((rw (count (goal.at.unreachable-requires c).After-crafts) at c.in-None.ensures) w.0 w.1 w.2)

pub returns : goal.returns
returns c =
    let e = c.args.state.now.encounter in
    let J = c.args.state.now.journal in
    let w = c.requires.wrong in
    let read = (rw (count (goal.at.returns c).After-crafts) at c.in-Some.ensures) w.0 w.1 w.2 in
    content-told (air_of e) J c.args.line c.args.lines.now.left w.1 w.0 c.in-Some.entry c.key_of_entry.result c.allowed_line.result c.of-wanted.result c.content_sentence.result
    w.2 read.0 read.1 c.key_of_entry.ensures c.allowed_line.ensures c.of-wanted.ensures c.content_sentence.ensures
