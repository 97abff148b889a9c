use Rattle.std.proofs.Common.{◌≡◌, ◌∙◌, List, [], Global, Vec, ap, arith, false, sym}
use Rattle.std.proofs.lemmas.List.{get_or-map, length-map}
use Rattle.track_file.specs.Track.{covers}
use Rattle.track_file.specs.declared.track.Point.{Point}
use Rattle.track_file.proofs.along.first_uncovered.Goals as goal

pub returns-then-not-covers-clause-first : goal.returns-then-not-covers-clause-first
returns-then-not-covers-clause-first c =
    let tracks = c.args.tracks.now in
    let track = c.index-tracks-craft.result in
    let items : Vec Point Global → List Point = λ v. v.items in
    let is : c.as_slice.result.now ≡ track.items = c.as_slice.ensures.value in
    let test : covers track.items c.args.cycles ≡ false = sym (ap (λ l. covers l c.args.cycles) is) ∙ sym c.covers.ensures ∙ c.if-not-covers.true in (
      omega (arith, length-map tracks items, c.loop-craft-test.true),
      ap (λ l. covers l c.args.cycles) (get_or-map items tracks c.loop-craft.craft track [] c.loop-craft-test.true ∙ sym (ap items c.index-tracks-craft.is)) ∙ test,
      λ k h. ap (λ l. covers l c.args.cycles) (get_or-map items tracks k track [] (omega (arith, h, c.loop-craft-test.true))) ∙ c.loop-craft.invariant k track h,
    )
