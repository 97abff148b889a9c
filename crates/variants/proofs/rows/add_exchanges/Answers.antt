use Rattle.std.proofs.Common.{◌+◌, ◌++◌, ◌∷◌, [], ◌∙◌, ap, append_assoc, arith, sym}
use Rattle.std.specs.List.{range_with_len}
use Rattle.variants.proofs.Pairs.{among-more}
use Rattle.variants.specs.Rows.{exchanges_among}
use Rattle.variants.proofs.rows.add_exchanges.Goals as goal

pub loop-place-preserved : goal.loop-place-preserved
loop-place-preserved c =
    let crafts = c.args.crafts.now in
    let one = c.args.one in
    let first = c.from-first.result + 1 in
    let place = c.loop-place.place in
    let old = c.args.changes.now.items in
    record {
      items =
          c.in_ok-add_exchange.ensures.added
          ∙ ap (λ l. l ++ exchanges_among crafts one ((first + place) ∷ [])) c.loop-place.invariant.items
          ∙ append_assoc old (exchanges_among crafts one (range_with_len first place)) (exchanges_among crafts one ((first + place) ∷ []))
          ∙ ap (λ l. old ++ l) (sym (among-more crafts one first place (first + place) (omega arith)));
      small = λ all. c.in_ok-add_exchange.ensures.small (c.loop-place.invariant.small all);
    }
