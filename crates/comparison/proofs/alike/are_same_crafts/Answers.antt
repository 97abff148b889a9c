use Rattle.std.proofs.Common.{◌≡◌, ◌<◌, length, Some, refl, sym, ap, ◌∙◌, arith}
use Rattle.std.proofs.lemmas.Option.{slice_get-get_or}
use Rattle.comparison.proofs.Helps.{maps-differ, maps-more, same-maps}
use Rattle.comparison.specs.Encounters.{without_ceiling}
use Rattle.comparison.proofs.alike.are_same_crafts.Goals as goal

pub returns-then-not-is_same_craft : goal.returns-then-not-is_same_craft
returns-then-not-is_same_craft c =
    let one = c.args.one.now in
    let other = c.args.other.now in
    let place = c.loop-place.place in
    let within : place < length one = c.loop-place-test.true in
    let size : length one ≡ length other = c.if-one-other.false in (
      λ t. absurd cc,
      λ e. absurd (
          let same = c.is_same_craft.ensures.1 (maps-differ without_ceiling one other place _ _ (slice_get-get_or one place c.index-one-place.result within ∙ ap Some (sym c.index-one-place.is)) (slice_get-get_or other place c.index-other-place.result (omega arith) ∙ ap Some (sym c.index-other-place.is)) e) in
          let differ = c.if-not-is_same_craft.true in
          cc),
    )

pub loop-place-preserved : goal.loop-place-preserved
loop-place-preserved c = λ k below.
    let one = c.args.one.now in
    let other = c.args.other.now in
    let place = c.loop-place.place in
    let within : place < length one = c.loop-place-test.true in
    let size : length one ≡ length other = c.if-one-other.false in
    maps-more without_ceiling one other place _ _ (slice_get-get_or one place c.index-one-place.result within ∙ ap Some (sym c.index-one-place.is)) (slice_get-get_or other place c.index-other-place.result (omega arith) ∙ ap Some (sym c.index-other-place.is))
    (c.is_same_craft.ensures.0 c.if-not-is_same_craft.false) c.loop-place.invariant k below

pub returns : goal.returns
returns c =
    let size : length c.args.one.now ≡ length c.args.other.now = c.if-one-other.false in (
      λ t. same-maps without_ceiling c.args.one.now c.args.other.now size (λ k b. c.loop-place.invariant k (let end = c.loop-place-test.false in omega arith)),
      λ e. refl,
    )
