use Rattle.std.proofs.Common.{◌≡◌, ◌∙◌, List, ap, subst, sym}
use Rattle.acas_base.specs.Encounter.{IsEncounter, encounter_of}
use Rattle.acas_base.specs.declared.TheConstants.{CRAFTS}
use Rattle.enc_file.proofs.Encountered.{encounter-said}
use Rattle.enc_file.proofs.Tabled.{active-held, parts-held, run-held}
use Rattle.enc_file.specs.Earlier.{by_group, call_group, encounter_by}
use Rattle.enc_file.specs.Tables.{Holds}
use Rattle.enc_file.specs.declared.record.Record.{Record}
use Rattle.enc_file.proofs.tables.Tables.encounter_in.Goals as goal
use Rattle.enc_file.proofs.tables.Tables.encounter_in.Goals.{After-make-made}

-- The parts are those of the encounter that the records say.
whole : (c : After-make-made) (earlier : List Record) → Holds earlier c.args.self.now
    → encounter_of c.setting_by.result c.in_ok-calls_by_craft.field-0.items c.in_ok-from_slice.field-0.items c.in_ok-joined.field-0.items c.in_ok-joined-2.field-0.items c.in_ok-joined-3.field-0.items c.in_ok-joined-4.field-0.items ≡ encounter_by earlier
whole c earlier h =
    parts-held earlier c.args.self.now c.args.run c.unwrap_or-gains.result c.setting_by.result c.in_ok-calls_by_craft.field-0.items c.in_ok-from_slice.field-0.items
    c.in_ok-joined.field-0.items c.in_ok-joined-2.field-0.items c.in_ok-joined-3.field-0.items c.in_ok-joined-4.field-0.items
    h c.requires.run c.unwrap_or-gains.ensures c.setting_by.ensures (c.in_ok-calls_by_craft.ensures ∙ ap (by_group call_group CRAFTS) c.deref.ensures.value) (c.in_ok-from_slice.ensures.items ∙ c.deref-2.ensures.value)
    c.in_ok-joined.ensures c.in_ok-joined-2.ensures c.in_ok-joined-3.ensures c.in_ok-joined-4.ensures

pub returns : goal.returns
returns c = λ earlier h. c.in-Some.ensures.value ∙ whole (goal.at.returns c).After-make-made earlier h

pub unreachable-requires : goal.unreachable-requires
unreachable-requires c =
    let earlier = c.requires.held.earlier in
    let h = c.requires.held.holds in
    let valid = subst IsEncounter (sym (whole (goal.at.unreachable-requires c).After-make-made earlier h)) (encounter-said earlier h.read (run-held earlier c.args.self.now c.args.run h c.requires.run) (active-held earlier c.args.self.now h c.requires.active)) in
    absurd (cc (c.in-None.ensures.some.1 valid))
