use Rattle.std.proofs.Common.{◌∙◌, List, [], Global, Vec, ap, arith, subst, sym}
use Rattle.std.proofs.lemmas.List.{get_or-map, length-map}
use Rattle.flight.specs.declared.place.Place.{Place}
use Rattle.leg_rows.specs.Rows.{AreFlyable, IsFirstExcess}
use Rattle.track_file.proofs.along.first_fast.Goals as goal

pub returns-in-Some-clause-first : goal.returns-in-Some-clause-first
returns-in-Some-clause-first c =
    let rows = c.args.rows.now in
    let row = c.index-rows-craft.result in
    let items : Vec Place Global → List Place = λ v. v.items in (
      omega (arith, length-map rows items, c.loop-craft-test.true),
      subst (λ (l : List Place). IsFirstExcess l c.in-Some.cycle)
          (c.as_slice.ensures.value ∙ ap items c.index-rows-craft.is ∙ sym (get_or-map items rows c.loop-craft.craft row [] c.loop-craft-test.true))
          c.in-Some.ensures.first,
      λ k h. subst (λ (l : List Place). AreFlyable l) (sym (get_or-map items rows k row [] (omega (arith, h, c.loop-craft-test.true)))) (c.loop-craft.invariant k row h),
    )
