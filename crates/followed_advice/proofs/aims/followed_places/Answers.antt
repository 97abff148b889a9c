use Rattle.std.proofs.Common.{◌≡◌, ◌+◌, ◌++◌, ◌∷◌, [], ◌∙◌, ap, arith, rules, sym}
use Rattle.std.proofs.lemmas.Grind.{common_steps}
use Rattle.std.proofs.lemmas.List.FromFn.{map-range_with_len_more}
use Rattle.followed_advice.specs.Following.{followed}
use Rattle.response.specs.Flown.{flown}
use Rattle.response.specs.Modelled.{FlightTold}
use Rattle.followed_advice.proofs.aims.followed_places.Goals as goal

pub loop-second-preserved : goal.loop-second-preserved
loop-second-preserved c =
    let read = c.args.encounter.now in
    let J = c.args.state.now.journal in
    let own = c.args.own in
    let n = c.loop-second.second in
    let before = c.loop-second.invariant in
    let place = c.at_altitude.result in
    let more : FlightTold → FlightTold = λ f. record { encounter = f.encounter; journal = f.journal; craft = f.craft; told = f.told + 1 } in
    let pushed : c.push.new.self.items ≡ c.loop-second.places.items ++ place ∷ [] = grind (arith, common_steps) in
    let altitude = c.in-Some.ensures.altitude.value ∙ ap (λ (f : FlightTold). flown f.encounter f.journal f.craft (f.told + 1)) before.flight in
    let value : place ≡ followed read J own (n + 1) = search rules in
    record {
      items = pushed ∙ rw (before.items, value) (sym (map-range_with_len_more (followed read J own) 1 n (n + 1) (omega arith)));
      flight = c.in-Some.ensures.told ∙ ap more before.flight;
    }
