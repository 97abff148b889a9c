use Rattle.std.proofs.Common.{rules, w64}
use Rattle.std.proofs.lemmas.Int.{to_z-of_z}
use Rattle.std.proofs.lemmas.Bool.Decides.{same_from_decides}
use Rattle.tau_test.proofs.Hitting.{hits-range}
use Rattle.craft_view.proofs.hits.is_range_hit.Goals as goal

pub returns : goal.returns
returns c =
    let est = to_z-of_z w64 c.args.range.now.est (search rules) in
    let rate = to_z-of_z w64 c.args.range.now.rate (search rules) in
    same_from_decides _ _ (rw (est, rate) at c.range_test.ensures) (hits-range c.args.range.now.est c.args.range.now.rate c.args.row.now)
