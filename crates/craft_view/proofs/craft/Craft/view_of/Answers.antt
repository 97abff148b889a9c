use Rattle.std.proofs.Common.{◌≤◌, ◌∙◌, length, rules, sym}
use Rattle.craft_view.proofs.Past.{past-view}
use Rattle.craft_view.proofs.craft.Craft.view_of.Goals as goal

pub returns-else-from-crafts : goal.returns-else-from-crafts
returns-else-from-crafts c =
    let e = c.args.places.now.encounter in
    let past : length e.crafts ≤ c.args.target = search rules in
    c.no_view-view.ensures ∙ sym (past-view e c.args.self.now.own c.args.self.now.cycle c.args.target past)
