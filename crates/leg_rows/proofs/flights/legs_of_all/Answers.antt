use Rattle.std.proofs.Common.{◌≡◌, ◌+◌, ◌++◌, ◌∷◌, [], ◌∙◌, ap, arith, length, sym, take}
use Rattle.std.specs.Prelude.{map}
use Rattle.std.proofs.lemmas.Grind.{common_steps}
use Rattle.std.proofs.lemmas.List.{map-append, take_all}
use Rattle.leg_rows.proofs.Together.{from-more}
use Rattle.leg_rows.specs.Flights.{legs_from, legs_of_all}
use Rattle.leg_rows.specs.Rows.{legs_through}
use Rattle.leg_rows.proofs.flights.legs_of_all.Goals as goal

pub loop-craft-preserved : goal.loop-craft-preserved
loop-craft-preserved c =
    let rows = c.args.rows.now in
    let row = c.index-rows-craft.result in
    let k = c.loop-craft.craft in
    let more : take (k + 1) rows ≡ take k rows ++ row ∷ [] = grind (arith, common_steps, c.index-rows-craft.is) in
    let long : k ≡ length (map (λ row. row.items) (take k rows)) = grind (arith, common_steps) in
    let added : c.add_legs.new.legs.items ≡ c.loop-craft.legs.items ++ legs_through k row.items = c.in_ok-add_legs.ensures ∙ ap (λ l. c.loop-craft.legs.items ++ legs_through k l) c.as_slice.ensures.value in
    let end : legs_from 0 (map (λ row. row.items) (take k rows) ++ row.items ∷ []) ≡ legs_from 0 (map (λ row. row.items) (take k rows)) ++ legs_through k row.items =
    from-more 0 k (map (λ row. row.items) (take k rows)) row.items (omega (arith, long)) in
    added ∙ ap (λ l. l ++ legs_through k row.items) c.loop-craft.invariant ∙ sym end
    ∙ sym (ap (λ l. legs_from 0 (map (λ row. row.items) l)) more ∙ ap (legs_from 0) (map-append (λ row. row.items) (take k rows) (row ∷ [])))

pub returns : goal.returns
unfolding legs_of_all
returns c = c.loop-craft.invariant ∙ ap (λ l. legs_from 0 (map (λ row. row.items) l)) (take_all c.loop-craft.craft c.args.rows.now c.loop-craft-test.false)
