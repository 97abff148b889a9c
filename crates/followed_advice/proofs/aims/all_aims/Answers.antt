use Rattle.std.proofs.Common.{◌≡◌, ◌++◌, ◌∷◌, [], ◌∙◌, ap, arith, sym}
use Rattle.std.specs.Prelude.{map}
use Rattle.std.proofs.lemmas.Grind.{common_steps}
use Rattle.std.proofs.lemmas.List.{map-append}
use Rattle.std.proofs.lemmas.List.FromFn.{map-range_with_len_more}
use Rattle.followed_advice.specs.Keeping.{aims}
use Rattle.followed_advice.proofs.aims.all_aims.Goals as goal

pub loop-own-preserved : goal.loop-own-preserved
loop-own-preserved c =
    let row = c.in_ok-aims.field-0 in
    let pushed : c.push.new.self.items ≡ c.loop-own.rows.items ++ row ∷ [] = grind (arith, common_steps) in
    ap (λ l. map (λ row. row.items) l) pushed
    ∙ map-append (λ row. row.items) c.loop-own.rows.items (row ∷ [])
    ∙ rw (c.loop-own.invariant, c.in_ok-aims.ensures)
    (sym (map-range_with_len_more (aims c.args.encounter.now c.args.named.now c.args.state.now.journal) 0 c.loop-own.own c.loop-own.own (omega arith)))
