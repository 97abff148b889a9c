use Rattle.std.proofs.Common.{◌≡◌, ◌+◌, ◌++◌, ◌∷◌, [], ◌∙◌, arith, sym}
use Rattle.std.proofs.lemmas.Grind.{common_steps}
use Rattle.std.proofs.lemmas.List.{get_or_default}
use Rattle.std.proofs.lemmas.List.Elements.{All-push}
use Rattle.std.proofs.lemmas.List.FromFn.{map-range_with_len_more}
use Rattle.flight.specs.Flight.{nowhere}
use Rattle.flight.specs.Inside.{IsInBox}
use Rattle.followed_advice.specs.Keeping.{kept}
use Rattle.followed_advice.proofs.Keeping.{kept-more}
use Rattle.followed_advice.proofs.kept.kept_row.Goals as goal

pub loop-second-preserved : goal.loop-second-preserved
loop-second-preserved c =
    let places = c.args.places.now in
    let n = c.loop-second.second in
    let before = c.loop-second.invariant in
    let next = c.goes_on-here.result in
    let pushed : c.push.new.self.items ≡ c.loop-second.row.items ++ next ∷ [] = grind (arith, common_steps) in
    let value : next ≡ kept places (n + 1) = c.goes_on-here.ensures.value ∙ kept-more places n _ _ before.last (get_or_default places n _ nowhere c.loop-second-test.true) in
    record {
      items = pushed ∙ rw (before.items, value) (sym (map-range_with_len_more (kept places) 1 n (n + 1) (omega arith)));
      all_boxed = rw pushed (All-push IsInBox c.loop-second.row.items next before.all_boxed c.goes_on-here.ensures.boxed);
      last = value;
      boxed = c.goes_on-here.ensures.boxed;
    }
