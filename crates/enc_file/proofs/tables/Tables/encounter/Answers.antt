use Rattle.std.proofs.Common.{◌≡◌, ◌∙◌, ap, sym, true}
use Rattle.std.specs.List.{list_any}
use Rattle.acas_base.specs.Encounter.{is_active}
use Rattle.enc_file.proofs.Refused.{end-lacking, end-no-run, end-nobody}
use Rattle.enc_file.proofs.Tabled.{nothing-missing}
use Rattle.enc_file.proofs.tables.Tables.encounter.Goals as goal

pub returns-in_default : goal.returns-in_default
returns-in_default c = λ earlier h. end-no-run earlier (sym h.run ∙ c.in_default.is)

pub returns-then-not-some_active : goal.returns-then-not-some_active
returns-then-not-some_active c = λ earlier h.
    end-nobody earlier (ap (list_any is_active) (sym (c.deref.ensures.value ∙ h.crafts)) ∙ sym c.some_active.ensures ∙ c.if-not-some_active.true)

pub returns-then-lacks_profile : goal.returns-then-lacks_profile
returns-then-lacks_profile c = λ earlier h. end-lacking earlier (sym (c.lacks_profile.ensures earlier h) ∙ c.if-lacks_profile.true)

pub encounter_in-requires : goal.encounter_in-requires
encounter_in-requires c =
    let active : list_any is_active c.args.self.now.crafts.items ≡ true = ap (list_any is_active) (sym c.deref.ensures.value) ∙ sym c.some_active.ensures ∙ c.if-not-some_active.false in
    record { run = c.in-Some.is; active = active; held = c.requires }

pub returns : goal.returns
returns c = λ earlier h.
    let active : list_any is_active c.args.self.now.crafts.items ≡ true = ap (list_any is_active) (sym c.deref.ensures.value) ∙ sym c.some_active.ensures ∙ c.if-not-some_active.false in
    (nothing-missing earlier c.args.self.now c.in-Some.run' h c.in-Some.is (sym (c.lacks_profile.ensures earlier h) ∙ c.if-lacks_profile.false) active, c.in_ok-encounter_in.ensures earlier h)
