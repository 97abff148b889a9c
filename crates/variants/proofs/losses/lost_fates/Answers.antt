use Rattle.std.proofs.Common.{◌≡◌, ◌+◌, ◌-◌, ◌++◌, ◌∷◌, [], ◌∙◌, ap, arith, refl, sym}
use Rattle.std.specs.Prelude.{map}
use Rattle.std.specs.List.{range_with_len}
use Rattle.std.proofs.lemmas.Grind.{common_steps}
use Rattle.std.proofs.lemmas.List.FromFn.{map-range_with_len_more}
use Rattle.variants.specs.Losses.{lost_fate}
use Rattle.variants.proofs.losses.lost_fates.Goals as goal

pub loop-place-preserved : goal.loop-place-preserved
loop-place-preserved c =
    let loss = c.args.loss in
    let pushed : c.push.new.self.items ≡ c.loop-place.fates.items ++ c.lost_fate.result ∷ [] = grind (arith, common_steps) in
    pushed ∙ rw (c.loop-place.invariant, c.lost_fate.ensures) (sym (map-range_with_len_more (lost_fate loss.sender loss.receiver) loss.first c.loop-place.place (loss.first + c.loop-place.place) refl))

pub returns : goal.returns
returns c =
    let loss = c.args.loss in
    let count : c.loop-place.place ≡ loss.last - loss.first = (let t = c.loop-place-test.false in let high = c.loop-place.auto.place-end in omega arith) in
    let pushed : c.push-2.new.self.items ≡ c.loop-place.fates.items ++ c.lost_fate-2.result ∷ [] = grind (arith, common_steps) in
    let whole : c.push-2.new.self.items ≡ map (lost_fate loss.sender loss.receiver) (range_with_len loss.first (c.loop-place.place + 1)) =
    pushed ∙ rw (c.loop-place.invariant, c.lost_fate-2.ensures) (sym (map-range_with_len_more (lost_fate loss.sender loss.receiver) loss.first c.loop-place.place loss.last (omega (arith, count, c.requires)))) in
    whole ∙ ap (λ n. map (lost_fate loss.sender loss.receiver) (range_with_len loss.first n)) (omega (arith, count, c.requires))
