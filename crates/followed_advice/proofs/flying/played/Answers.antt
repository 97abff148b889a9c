use Rattle.std.proofs.Common.{List, [], subst}
use Rattle.acas_base.specs.declared.entry.Entry.{Entry}
use Rattle.air_journal.specs.Airs.{air_of}
use Rattle.resume.specs.Filling.{IsFilled}
use Rattle.followed_advice.proofs.flying.played.Goals as goal

pub returns-clause-serial : goal.returns-clause-serial
returns-clause-serial c =
    let e = c.args.encounter.now in
    let journal = c.fill.new.state.journal in
    let filled : IsFilled (air_of e) [] journal = subst (λ (first : List Entry). IsFilled (air_of e) first journal) c.in_ok-state.ensures.journal c.fill.ensures.filled in
    c.filled_law.ensures.serial (air_of e) journal (c.sound_law.ensures e c.valid_law.ensures) filled
