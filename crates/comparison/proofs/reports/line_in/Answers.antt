use Rattle.std.proofs.Common.{◌≤◌, length, sym, ap, ◌∙◌, arith}
use Rattle.acas_base.specs.Encounter.{Parts}
use Rattle.comparison.proofs.Apart.{none-past}
use Rattle.comparison.proofs.reports.line_in.Goals as goal

pub returns-in-None : goal.returns-in-None
returns-in-None c =
    let crafts = c.crafts.ensures.value ∙ ap (λ (e : Parts). e.crafts) c.enc.ensures in
    let past : length c.args.state.now.encounter.crafts ≤ c.args.own = (let f = c.in-None.ensures.lookup.3 in let n = ap length crafts in let o = c.from.ensures in omega arith) in
    sym (none-past c.args.state.now c.args.cycle c.args.own c.legal_law.ensures.valid c.legal_law.ensures.legal c.requires past)
