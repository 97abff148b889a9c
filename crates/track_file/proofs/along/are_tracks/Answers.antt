use Rattle.std.proofs.Common.{◌≡◌, ◌∙◌, Global, Vec, ap, arith, get_or, inl, inr, subst, sym}
use Rattle.std.proofs.lemmas.Bool.{both_ways, cases_lt, false≢true}
use Rattle.std.proofs.lemmas.List.{get_or_default}
use Rattle.track_file.specs.Track.{IsTrack}
use Rattle.track_file.specs.declared.track.Point.{Point}
use Rattle.track_file.proofs.along.are_tracks.Goals as goal

pub returns-then-not-is_track : goal.returns-then-not-is_track
returns-then-not-is_track c = (
  λ t. absurd (false≢true t),
  λ all.
      let here : IsTrack c.index-tracks-craft.result.items = subst (λ (v : Vec Point Global). IsTrack v.items) (sym c.index-tracks-craft.is) (all c.loop-craft.craft c.index-tracks-craft.result c.loop-craft-test.true) in
      let held : IsTrack c.as_slice.result.now = subst IsTrack (sym c.as_slice.ensures.value) here in
      absurd (both_ways c.is_track.result c.if-not-is_track.true (c.is_track.ensures.1 held)),
)

pub loop-craft-preserved : goal.loop-craft-preserved
loop-craft-preserved c k d h = elim (cases_lt k c.loop-craft.craft) [
  | inl g ↦ c.loop-craft.invariant k d g
  | inr g ↦
      let same : c.loop-craft.craft ≡ k = omega arith in
      let there : c.index-tracks-craft.result ≡ get_or c.args.tracks.now k d =
      c.index-tracks-craft.is ∙ get_or_default c.args.tracks.now c.loop-craft.craft c.index-tracks-craft.result d c.loop-craft-test.true ∙ ap (λ i. get_or c.args.tracks.now i d) same in
      subst (λ (v : Vec Point Global). IsTrack v.items) there (subst IsTrack c.as_slice.ensures.value (c.is_track.ensures.0 c.if-not-is_track.false))
]
