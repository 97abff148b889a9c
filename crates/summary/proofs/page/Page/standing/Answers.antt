use Rattle.std.proofs.Common.{get_or, None, subst}
use Rattle.air_journal.specs.States.{State}
use Rattle.summary.specs.Kept.{IsStanding}
use Rattle.summary.proofs.page.Page.standing.Goals as goal

pub returns : goal.returns
returns c =
    subst (λ (s : State). IsStanding s.encounter s.journal c.args.pair (get_or c.self.inside.standings c.args.pair None)) c.self.view_is
    (c.self.invariant.standings_are c.args.pair c.requires)
