use Rattle.std.proofs.Common.{◌≡◌, get_or, subst}
use Rattle.air_journal.specs.States.{State}
use Rattle.summary.specs.Pairs.{place_in_order}
use Rattle.summary.proofs.page.Page.place.Goals as goal

pub returns : goal.returns
returns c =
    subst (λ (s : State). get_or c.self.inside.places c.args.pair 0 ≡ place_in_order s.encounter s.journal c.args.pair) c.self.view_is
    (c.self.invariant.places_are c.args.pair c.requires)
