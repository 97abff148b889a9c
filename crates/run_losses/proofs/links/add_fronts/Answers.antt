use Rattle.std.proofs.Common.{◌≡◌, ◌+◌, ◌++◌, ◌∷◌, [], ◌∙◌, ap, append_assoc, arith, sym}
use Rattle.std.specs.Prelude.{map}
use Rattle.std.specs.List.{range_with_len}
use Rattle.std.proofs.lemmas.Grind.{common_steps}
use Rattle.std.proofs.lemmas.List.FromFn.{map-range_with_len_more}
use Rattle.run_losses.specs.Losses.{front_loss}
use Rattle.run_losses.proofs.links.add_fronts.Goals as goal

pub loop-place-preserved : goal.loop-place-preserved
loop-place-preserved c =
    let f = front_loss c.args.sender c.args.receiver in
    let n = c.loop-place.place in
    let old = c.args.changes.now.items in
    let pushed : c.push.new.self.items ≡ c.loop-place.changes.items ++ c.front_loss.result ∷ [] = grind (arith, common_steps) in
    pushed
    ∙ ap (λ x. c.loop-place.changes.items ++ x ∷ []) c.front_loss.ensures
    ∙ ap (λ l. l ++ f (n + 2) ∷ []) c.loop-place.invariant
    ∙ append_assoc old (map f (range_with_len 2 n)) (f (n + 2) ∷ [])
    ∙ ap (λ l. old ++ l) (sym (map-range_with_len_more f 2 n (n + 2) (omega arith)))
