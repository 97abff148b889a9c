use Rattle.std.proofs.Common.{rules}
use Rattle.std.proofs.lemmas.Fn.{always_returns_same}
use Rattle.acas_base.proofs.Rising.{rising-tested}
use Rattle.acas_base.proofs.records.are_rising.Goals as goal

pub returns : goal.returns
returns g c = rising-tested g.T.Record.below c.args.records.now _ (c.is_sorted_by.ensures.cases g.T.Record.below (always_returns_same _ _ _ (λ a r f' k. search rules)))
