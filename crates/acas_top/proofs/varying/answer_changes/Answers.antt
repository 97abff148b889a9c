use Rattle.std.proofs.Common.{◌≡◌, ◌∙◌, ◌≤◌, length, refl, subst, arith, rules}
use Rattle.acas_top.specs.Varying.{Base, IsFound, TellsChanges}
use Rattle.acas_top.proofs.Variations.{found-tells}
use Rattle.acas_top.proofs.varying.answer_changes.Goals as goal

pub returns : goal.returns
returns g c =
    let base : Base = record { encounter = c.args.state.encounter; journal = c.args.state.journal; changes = c.args.changes.items } in
    let few : length c.args.changes.items ≤ 4096 = search rules in
    found-tells base c.in_ok-of.field-0 few (subst (λ (b : Base). IsFound b c.in_ok-of.field-0) c.in_ok-runs.ensures c.in_ok-of.ensures)
