use Rattle.std.proofs.Common.{◌≡◌, ◌∙◌, false, List, sym, subst}
use Rattle.std.specs.Prelude.{IfOk}
use Rattle.flight.specs.declared.place.Place.{Place}
use Rattle.leg_rows.specs.Rows.{places_of}
use Rattle.followed_advice.specs.Following.{is_named}
use Rattle.followed_advice.proofs.Keeping.{aims-planned}
use Rattle.followed_advice.proofs.aims.aims.Goals as goal

pub returns : goal.returns
unfolding places_of
returns c =
    let other : is_named c.args.named.now c.args.own ≡ false = sym c.is_named.ensures ∙ c.if-is_named.false in
    subst (λ (row : List Place). IfOk c.places_of.result (λ places. places.items ≡ row)) (aims-planned c.args.encounter.now c.args.named.now c.args.state.now.journal c.args.own other) c.places_of.ensures.value
