use Rattle.std.proofs.Common.{◌≡◌, ◌+◌, ◌++◌, ◌∷◌, [], ◌∙◌, ap, arith, sym}
use Rattle.std.specs.Prelude.{map}
use Rattle.std.specs.List.{range_with_len}
use Rattle.std.proofs.lemmas.Grind.{common_steps}
use Rattle.std.proofs.lemmas.List.Elements.{All-push}
use Rattle.std.proofs.lemmas.List.FromFn.{map-range_with_len_more}
use Rattle.flight.specs.Bounds.{IsReachable}
use Rattle.flight.specs.Flight.{position}
use Rattle.leg_rows.specs.Rows.{places_of}
use Rattle.leg_rows.proofs.places.places_of.Goals as goal

pub loop-cycle-preserved : goal.loop-cycle-preserved
loop-cycle-preserved c =
    let pushed : c.push.new.self.items ≡ c.loop-cycle.places.items ++ c.position.result ∷ [] = grind (arith, common_steps) in
    record {
      items =
          pushed ∙ rw (c.loop-cycle.invariant.items, c.position.ensures.value)
          (sym (map-range_with_len_more (position c.args.encounter.now c.args.craft) 1 c.loop-cycle.cycle (c.loop-cycle.cycle + 1) (omega arith)));
      reachable = rw pushed (All-push IsReachable c.loop-cycle.places.items c.position.result c.loop-cycle.invariant.reachable c.position.ensures.bounds);
    }

pub returns-clause-value : goal.returns-clause-value
unfolding places_of
returns-clause-value c = c.loop-cycle.invariant.items ∙ ap (λ n. map (position c.args.encounter.now c.args.craft) (range_with_len 1 n)) (omega (arith, c.cycles-cycle-end.ensures.value))
