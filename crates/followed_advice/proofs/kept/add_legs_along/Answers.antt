use Rattle.std.proofs.Common.{◌≡◌, ◌∙◌, List, get_or, length, ap, arith, subst, sym}
use Rattle.flight.specs.Inside.{IsInBox}
use Rattle.flight.specs.declared.place.Place.{Place}
use Rattle.leg_rows.specs.Rows.{place_of}
use Rattle.followed_advice.proofs.Keeping.{kept-long, row-long, row-start}
use Rattle.followed_advice.proofs.kept.add_legs_along.Goals as goal

pub kept_row-requires-clause-some : goal.kept_row-requires-clause-some
kept_row-requires-clause-some c =
    let rows = c.args.rows.now in
    let row = c.index-rows-from.result in
    let at : row ≡ get_or rows c.args.own row = c.index-rows-from.is ∙ ap (λ i. get_or rows i row) c.from.ensures in
    let long = row-long c.args.encounter.now rows c.args.own row c.requires.rows c.requires.own at in
    let same = ap length c.as_slice.ensures.value in
    omega (arith, long, same, c.valid_law.ensures.run.length.0)

pub kept_row-requires-clause-start : goal.kept_row-requires-clause-start
kept_row-requires-clause-start c =
    let rows = c.args.rows.now in
    let row = c.index-rows-from.result in
    let at : row ≡ get_or rows c.args.own row = c.index-rows-from.is ∙ ap (λ i. get_or rows i row) c.from.ensures in
    subst (λ (l : List Place). IsInBox (place_of l 1)) (sym c.as_slice.ensures.value)
    (row-start c.args.encounter.now rows c.args.own row c.requires.rows c.requires.start c.requires.inside c.valid_law.ensures.run.length.0 c.requires.own at)

pub add_legs-requires-clause-few : goal.add_legs-requires-clause-few
add_legs-requires-clause-few c =
    let rows = c.args.rows.now in
    let row = c.index-rows-from.result in
    let at : row ≡ get_or rows c.args.own row = c.index-rows-from.is ∙ ap (λ i. get_or rows i row) c.from.ensures in
    let long = row-long c.args.encounter.now rows c.args.own row c.requires.rows c.requires.own at in
    let same = ap length c.as_slice.ensures.value in
    let last = ap length c.as_slice-then-is_named.ensures.value in
    let value = ap length c.in_ok-row.ensures.value in
    let kept = kept-long c.as_slice.result.now in
    omega (arith, long, same, last, value, kept, c.valid_law.ensures.run.length.1)
