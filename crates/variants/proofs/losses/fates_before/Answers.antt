use Rattle.std.proofs.Common.{◌∙◌, ap, rules}
use Rattle.std.specs.Prelude.{filter}
use Rattle.std.proofs.lemmas.Fn.{filter_same}
use Rattle.variants.specs.Losses.{is_before}
use Rattle.variants.proofs.losses.fates_before.Goals as goal

pub returns : goal.returns
returns c =
    let lost = c.lost_fate-first.ensures in
    filter_same _ (is_before c.args.loss) _ (λ x r f' k. search rules) _ _ c.retain.ensures.filtered ∙ ap (filter (is_before c.args.loss)) c.in_ok-kept.ensures.items
