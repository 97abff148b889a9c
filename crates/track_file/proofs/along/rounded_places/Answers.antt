use Rattle.std.proofs.Common.{◌≡◌, ◌+◌, ◌++◌, ◌∷◌, [], ◌∙◌, arith, sym}
use Rattle.std.proofs.lemmas.Grind.{common_steps}
use Rattle.std.proofs.lemmas.List.Elements.{All-push}
use Rattle.std.proofs.lemmas.List.FromFn.{map-range_with_len_more}
use Rattle.flight.specs.Inside.{IsInBox}
use Rattle.track_file.proofs.Covering.{covered-at}
use Rattle.track_file.specs.Track.{rounded}
use Rattle.track_file.proofs.along.rounded_places.Goals as goal

pub rounded-requires-clause-covered : goal.rounded-requires-clause-covered
rounded-requires-clause-covered c = covered-at c.args.points.now c.args.cycles (c.loop-second.second + 1) (omega arith) (omega (arith, c.loop-second-test.true)) c.requires.covered

pub loop-second-preserved : goal.loop-second-preserved
loop-second-preserved c =
    let pushed : c.push.new.self.items ≡ c.loop-second.places.items ++ c.rounded.result ∷ [] = grind (arith, common_steps) in
    record {
      items =
          pushed ∙ rw (c.loop-second.invariant.items, c.rounded.ensures.value)
          (sym (map-range_with_len_more (rounded c.args.points.now) 1 c.loop-second.second (c.loop-second.second + 1) (omega arith)));
      boxed = rw pushed (All-push IsInBox c.loop-second.places.items c.rounded.result c.loop-second.invariant.boxed c.rounded.ensures.in_box);
    }
