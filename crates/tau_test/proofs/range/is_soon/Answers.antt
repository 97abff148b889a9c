use Rattle.std.proofs.Common.{◌*◌, ◌-◌, ◌<◌, leb-true, le-leb, mul-pos, arith}
use Rattle.acas_num.proofs.Needs.{need-le}
use Rattle.tau_test.proofs.range.is_soon.Goals as goal

pub returns : goal.returns
returns c =
    let beyond : 0 < c.args.r = omega arith in
    let n = need-le (c.args.r * c.args.r - c.args.dmod * c.args.dmod) (c.args.r * c.args.rate) c.args.tau (mul-pos beyond c.requires.closing) in
    (λ h. n.1 (leb-true _ _ h), λ h. le-leb _ _ (n.0 h))
