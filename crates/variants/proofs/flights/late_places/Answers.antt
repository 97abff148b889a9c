use Rattle.std.proofs.Common.{◌≡◌, ◌+◌, ◌++◌, ◌∷◌, [], FitsSigned, ◌∙◌, ap, arith, rules, subst, sym, w64}
use Rattle.std.specs.Prelude.{map}
use Rattle.std.specs.List.{range_with_len}
use Rattle.std.proofs.lemmas.Grind.{common_steps}
use Rattle.std.proofs.lemmas.Int.{to_z-of_z}
use Rattle.std.proofs.lemmas.List.Elements.{All-push}
use Rattle.std.proofs.lemmas.List.FromFn.{map-range_with_len_more}
use Rattle.flight.specs.Inside.{IsInBox}
use Rattle.variants.proofs.Later.{boxed-place}
use Rattle.variants.specs.Flights.{late_place, late_places}
use Rattle.variants.proofs.flights.late_places.Goals as goal

pub returns-then-not-is_in_box : goal.returns-then-not-is_in_box
returns-then-not-is_in_box c all =
    let fits : FitsSigned w64 c.args.late = search rules in
    let there = rw (to_z-of_z w64 c.args.late fits) at c.late_place-place.ensures in
    let here : IsInBox c.late_place-place.result =
    subst IsInBox (sym there)
    (boxed-place c.args.encounter.now c.args.craft c.args.late (c.loop-cycle.cycle + 1) all (omega arith) (omega (arith, c.cycles-cycle-end.ensures.value, c.loop-cycle-test.true))) in
    let inside = c.is_in_box.ensures.1 here in
    absurd (cc (inside, c.if-not-is_in_box.true))

pub loop-cycle-preserved : goal.loop-cycle-preserved
loop-cycle-preserved c =
    let fits : FitsSigned w64 c.args.late = search rules in
    let back = to_z-of_z w64 c.args.late fits in
    let earlier = rw back at c.loop-cycle.invariant.items in
    let there = rw back at c.late_place-place.ensures in
    let pushed : c.push.new.self.items ≡ c.loop-cycle.places.items ++ c.late_place-place.result ∷ [] = grind (arith, common_steps) in
    record {
      items = rw back
          (pushed ∙ rw (earlier, there)
          (sym (map-range_with_len_more (late_place c.args.encounter.now c.args.craft c.args.late) 1 c.loop-cycle.cycle (c.loop-cycle.cycle + 1) (omega arith))));
      boxed = rw pushed (All-push IsInBox c.loop-cycle.places.items c.late_place-place.result c.loop-cycle.invariant.boxed (c.is_in_box.ensures.0 c.if-not-is_in_box.false));
    }

pub returns : goal.returns
unfolding late_places
returns c =
    let fits : FitsSigned w64 c.args.late = search rules in
    let back = to_z-of_z w64 c.args.late fits in
    let items = rw back at c.loop-cycle.invariant.items in
    (items ∙ ap (λ n. map (late_place c.args.encounter.now c.args.craft c.args.late) (range_with_len 1 n)) (omega (arith, c.cycles-cycle-end.ensures.value, c.loop-cycle-test.false)), c.loop-cycle.invariant.boxed)
