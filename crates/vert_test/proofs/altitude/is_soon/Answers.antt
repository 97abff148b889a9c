use Rattle.std.proofs.Common.{leb-true, le-leb}
use Rattle.acas_num.proofs.Needs.{need-le}
use Rattle.vert_test.proofs.altitude.is_soon.Goals as goal

pub returns : goal.returns
returns c =
    let n = need-le c.args.height c.args.rate c.args.tau c.requires.converging in
    (λ h. n.1 (leb-true _ _ h), λ h. le-leb _ _ (n.0 h))
