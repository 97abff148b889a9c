use Rattle.std.proofs.Common.{ℤ, rules}
use Rattle.std.specs.Prelude.{◌<ℤ◌, int_lt}
use Rattle.std.specs.Bool.{Decides}
use Rattle.std.proofs.lemmas.Fn.{always_returns_same}
use Rattle.acas_base.proofs.Rising.{rising-tested}
use Rattle.track_file.specs.declared.track.Point.{Point}
use Rattle.track_file.proofs.track.are_rising.Goals as goal

order-tested : (a b : ℤ) → Decides (int_lt a b) (a <ℤ b)
order-tested a b = search rules

pub returns : goal.returns
returns c =
    let tested = rising-tested (λ (a b : Point). int_lt a.ms b.ms) c.args.points.now _ (c.is_sorted_by.ensures.cases (λ (a b : Point). int_lt a.ms b.ms) (always_returns_same _ _ _ (λ a r f' k. search rules))) in
    (λ t k d h. (order-tested _ _).0 (tested.0 t k d h), λ all. tested.1 (λ k d h. (order-tested _ _).1 (all k d h)))
