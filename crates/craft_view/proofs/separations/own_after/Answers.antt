use Rattle.std.proofs.Common.{◌≡◌, ◌∙◌, rules}
use Rattle.craft_view.specs.Separations.{own_after}
use Rattle.craft_view.proofs.Keeping.{after-at-goal}
use Rattle.craft_view.proofs.separations.own_after.Goals as goal

pub returns-then-goal-rate-clause-value : goal.returns-then-goal-rate-clause-value
returns-then-goal-rate-clause-value c =
    let a = c.args in
    let kept : a.approach.now.own ≡ own_after a.profile a.motion.now.own a.approach.now.halves a.response a.sense a.strength =
    c.requires.approach.own ∙ after-at-goal a.profile a.motion.now.own a.approach.now.halves a.response a.sense a.strength c.requires.response.forward (search rules) in
    search rules
