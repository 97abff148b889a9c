use Rattle.std.proofs.Common.{◌≡◌, ◌++◌, ◌∙◌, List, length, ap, arith, sym}
use Rattle.std.specs.Prelude.{map}
use Rattle.flight.specs.declared.place.Place.{Place}
use Rattle.air_journal.proofs.Bounds.{few-crafts}
use Rattle.followed_advice.proofs.Made.{all-more, all-of}
use Rattle.followed_advice.specs.Keeping.{all_legs, legs_along}
use Rattle.followed_advice.proofs.kept.all_legs.Goals as goal

pub loop-own-preserved : goal.loop-own-preserved
loop-own-preserved c =
    let rows : List (List Place) = map (λ row. row.items) c.args.rows.now in
    let f = legs_along c.args.encounter.now c.args.named.now rows in
    c.in_ok-add_legs_along.ensures
    ∙ ap (λ l. l ++ f c.loop-own.own) c.loop-own.invariant
    ∙ sym (all-more f 0 c.loop-own.own c.loop-own.own (omega arith))

pub returns : goal.returns
unfolding all_legs
returns c =
    let rows : List (List Place) = map (λ row. row.items) c.args.rows.now in
    let f = legs_along c.args.encounter.now c.args.named.now rows in
    let few = few-crafts c.args.encounter.now c.valid_law.ensures in
    let end : c.loop-own.own ≡ length c.args.encounter.now.crafts = (let long = ap length c.crafts.ensures.value in omega arith) in
    c.loop-own.invariant ∙ ap (λ n. all-of f 0 n) end
