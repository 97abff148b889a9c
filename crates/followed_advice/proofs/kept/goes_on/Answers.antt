use Rattle.std.proofs.Common.{◌∙◌, sym, true≢false}
use Rattle.followed_advice.proofs.Keeping.{goes-not, goes-there}
use Rattle.followed_advice.proofs.kept.goes_on.Goals as goal

pub returns-then-can_go_on-clause-value : goal.returns-then-can_go_on-clause-value
returns-then-can_go_on-clause-value c = sym (goes-there c.args.here c.args.there (c.can_go_on.ensures.0 c.if-can_go_on.true))

pub returns-else-can_go_on-clause-value : goal.returns-else-can_go_on-clause-value
returns-else-can_go_on-clause-value c = sym (goes-not c.args.here c.args.there (λ can. true≢false (sym (c.can_go_on.ensures.1 can) ∙ c.if-can_go_on.false)))
