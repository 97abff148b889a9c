use Rattle.std.proofs.Common.{arith}
use Rattle.std.proofs.lemmas.Slice.Zip.{AllZip-long}
use Rattle.acas_top.specs.Varying.{IsPlayed}
use Rattle.acas_top.proofs.varied.Varied.of.Goals as goal

pub invariant_of-result : goal.invariant_of-result
invariant_of-result g c =
    let same = AllZip-long (IsPlayed c.args.runs.encounter c.args.runs.journal) c.args.runs.changes c.in_ok-list.list.items c.in_ok-list.ensures in
    omega (arith, same)
