use Rattle.std.proofs.Common.{ℕ, ◌<◌, ◌≤◌, Option, length, sym, subst}
use Rattle.std.specs.Prelude.{IfSome}
use Rattle.acas_base.specs.Encounter.{Parts}
use Rattle.air_journal.specs.Airs.{air_of}
use Rattle.air_rules.proofs.Waiting.{commits-within}
use Rattle.air_rules.specs.Journal.{commits}
use Rattle.picture.specs.declared.messages_read.Origin.{Origin}
use Rattle.picture.proofs.messages_read.taking_at.Goals as goal

pub returns-in-Some-clause-fits : goal.returns-in-Some-clause-fits
returns-in-Some-clause-fits c =
    let e = c.args.state.now.encounter in
    let reader = c.args.reader.now in
    let few = commits-within (air_of reader.encounter) reader.read c.reading_law.ensures.read c.args.own in
    let run = subst (λ (p : Parts). commits reader.read c.args.own ≤ p.cycles) c.requires.encounter few in
    record {
      sender = subst (λ (o : Option Origin). IfSome o (λ (origin : Origin). origin.sender < length e.crafts)) c.in-Some.is c.origin_at.ensures.fits;
      receiver = c.requires.own;
      taken = subst (λ (n : ℕ). n ≤ e.cycles) (sym c.commits.ensures) run;
    }
