use Rattle.std.proofs.Common.{◌≡◌, ◌+◌, ◌++◌, ◌∷◌, [], ◌∙◌, ap, ◌<◌, arith, length, subst, sym, take, Vec, Global}
use Rattle.std.specs.Prelude.{map}
use Rattle.std.proofs.lemmas.Grind.{common_steps}
use Rattle.std.proofs.lemmas.List.{get_or_default, map-append}
use Rattle.flight.specs.Flight.{nowhere}
use Rattle.flight.specs.declared.place.Place.{Place}
use Rattle.leg_rows.proofs.Begun.{crafts-more}
use Rattle.leg_rows.specs.Flights.{at_place, crafts_at}
use Rattle.leg_rows.specs.Rows.{place_of}
use Rattle.leg_rows.proofs.starts.crafts_at.Goals as goal

pub loop-index-preserved : goal.loop-index-preserved
loop-index-preserved c =
    let crafts = c.args.crafts.now in
    let rows = c.args.rows.now in
    let row = c.index-rows-index.result in
    let k = c.loop-index.index in
    let more : take (k + 1) crafts ≡ take k crafts ++ c.index-crafts-index.result ∷ [] = grind (arith, common_steps, c.index-crafts-index.is) in
    let rows_more : take (k + 1) rows ≡ take k rows ++ row ∷ [] = grind (arith, common_steps, c.index-rows-index.is) in
    let pushed : c.push.new.self.items ≡ c.loop-index.made.items ++ c.at_place.result ∷ [] = grind (arith, common_steps) in
    let some : 0 < length row.items = subst (λ (v : Vec Place Global). 0 < length v.items) (sym c.index-rows-index.is) (c.requires.some k row (omega (arith, c.requires.count, c.loop-index-test.true))) in
    let first : c.index.result.now ≡ place_of row.items 1 = c.index.ensures ∙ get_or_default row.items 0 c.index.result.now nowhere some in
    let placed : c.at_place.result ≡ at_place c.index-crafts-index.result (place_of row.items 1) = c.at_place.ensures ∙ ap (at_place c.index-crafts-index.result) first in
    let long : length (take k crafts) ≡ length (map (λ row. row.items) (take k rows)) = grind (arith, common_steps, c.requires.count) in
    let end = crafts-more (take k crafts) (map (λ row. row.items) (take k rows)) c.index-crafts-index.result row.items long in
    pushed ∙ ap (λ r. c.loop-index.made.items ++ r ∷ []) placed ∙ ap (λ l. l ++ at_place c.index-crafts-index.result (place_of row.items 1) ∷ []) c.loop-index.invariant ∙ sym end
    ∙ sym (ap (λ l. crafts_at l (map (λ row. row.items) (take (k + 1) rows))) more
    ∙ ap (λ l. crafts_at (take k crafts ++ c.index-crafts-index.result ∷ []) l) (ap (map (λ row. row.items)) rows_more ∙ map-append (λ row. row.items) (take k rows) (row ∷ [])))
