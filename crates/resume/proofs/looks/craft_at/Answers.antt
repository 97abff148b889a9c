use Rattle.std.proofs.Common.{ap, arith}
use Rattle.acas_base.specs.Encounter.{Parts}
use Rattle.air_journal.specs.Airs.{air_of}
use Rattle.air_rules.proofs.Waiting.{commits-within}
use Rattle.resume.proofs.looks.craft_at.Goals as goal

pub look-requires-clause-left : goal.look-requires-clause-left
look-requires-clause-left c =
    let few = commits-within (air_of c.args.state.now.encounter) c.args.state.now.journal c.legal_law.ensures.legal c.args.own in
    let same = ap (λ (e : Parts). e.cycles) c.requires in
    omega (arith, c.commits-looks.ensures, c.loop-look.invariant.cycle_is)
