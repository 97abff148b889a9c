use Rattle.std.proofs.Common.{◌≡◌, rules}
use Rattle.acas_num.specs.Root.{root}
use Rattle.acas_num.proofs.Roots.{root-between, root-is}
use Rattle.acas_num.proofs.whole_root.root.Goals as goal

pub returns-then-is_root-clause-greatest : goal.returns-then-is_root-clause-greatest
returns-then-is_root-clause-greatest c =
    let same : c.near_root-near.result ≡ root c.args.n = search rules in
    rw same (root-is c.args.n)

pub returns-then-is_root-2-clause-greatest : goal.returns-then-is_root-2-clause-greatest
returns-then-is_root-2-clause-greatest c =
    let same : c.next_near-nearer.result ≡ root c.args.n = search rules in
    rw same (root-is c.args.n)

pub returns-clause-value : goal.returns-clause-value
returns-clause-value c = root-between c.args.n c.isqrt.result c.isqrt.ensures.square_le c.isqrt.ensures.next_square_gt
