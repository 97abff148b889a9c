use Rattle.std.proofs.Common.{◌+◌, ◌*◌, ◌<◌, ◌≤◌, arith, leb-true}
use Rattle.acas_num.proofs.Roots.{root-between}
use Rattle.acas_num.proofs.whole_root.is_root.Goals as goal

pub returns : goal.returns
returns c e =
    let n = c.args.n in
    let r = c.args.found in
    let square : r * r ≤ n = omega (arith, c.if-square-n.false) in
    let rest = leb-true _ _ e in
    let next : n < (r + 1) * (r + 1) = omega (arith, square, rest) in
    root-between n r square next
