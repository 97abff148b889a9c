use Rattle.std.proofs.Common.{◌∙◌, ap, rules}
use Rattle.std.specs.Prelude.{filter, nat_lt}
use Rattle.std.proofs.lemmas.Fn.{filter_same}
use Rattle.acas_base.specs.declared.craft.Leg.{Leg}
use Rattle.variants.proofs.flights.legs_behind.Goals as goal

pub returns : goal.returns
returns c = filter_same _ (λ (leg : Leg). nat_lt c.args.craft leg.craft) _ (λ x r f' k. search rules) _ _ c.retain.ensures.filtered ∙ ap (filter (λ (leg : Leg). nat_lt c.args.craft leg.craft)) c.in_ok-kept.ensures.items
