use Rattle.std.proofs.Common.{subst, sym, ◌∙◌}
use Rattle.acas_base.specs.Encounter.{Parts}
use Rattle.air_journal.specs.Airs.{air_of}
use Rattle.air_rules.specs.Rules.{IsComplete}
use Rattle.resume.specs.Filling.{IsFilled}
use Rattle.acas_top.proofs.runs.filled.Goals as goal

pub run_law-requires : goal.run_law-requires
run_law-requires c = subst (λ (e : Parts). IsComplete (air_of e) c.fill.new.state.journal) (sym c.fill.ensures.encounter) c.fill.ensures.complete

pub returns-clause-serial : goal.returns-clause-serial
returns-clause-serial c = λ serial is begins.
    let e = c.args.begun.encounter in
    let first = c.args.begun.journal in
    let journal = c.fill.new.state.journal in
    let filled = subst (λ (f : Parts). IsFilled (air_of f) first journal) (c.in_ok-encounter.ensures ∙ c.enc.ensures) c.fill.ensures.filled in
    c.filled_law.ensures.begun (air_of e) first serial journal (c.sound_law.ensures e c.legal_law.ensures.valid) is begins filled
