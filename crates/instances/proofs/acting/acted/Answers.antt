use Rattle.std.proofs.Common.{subst, sym}
use Rattle.std.specs.Prelude.{IfSome}
use Rattle.acas_base.specs.Encounter.{Parts}
use Rattle.air_journal.specs.Airs.{air_of}
use Rattle.air_rules.specs.Rules.{IsComplete}
use Rattle.instances.specs.Having.{IsAskedInside}
use Rattle.pair_ways.specs.Asked.{IsAsked}
use Rattle.instances.proofs.acting.acted.Goals as goal

pub returns : goal.returns
returns c =
    let run = c.fill.new.state in
    let found : IsAskedInside c.args.scope c.args.encounter.now c.in-Some.lossy = subst (λ o. IfSome o (IsAskedInside c.args.scope c.args.encounter.now)) c.in-Some.is c.in_ok-lossy.ensures in
    record {
      encounter = c.legal_law.ensures.valid;
      asked = subst (IsAsked c.args.scope c.args.encounter.now) (sym c.fill.ensures.encounter) found.asked;
      legal = c.legal_law.ensures.legal;
      complete = subst (λ (e : Parts). IsComplete (air_of e) run.journal) (sym c.fill.ensures.encounter) c.fill.ensures.complete;
    }
