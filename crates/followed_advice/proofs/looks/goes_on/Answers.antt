use Rattle.std.proofs.Common.{◌≡◌, ◌∙◌, get_or, ap, arith}
use Rattle.followed_advice.proofs.Keeping.{row-long}
use Rattle.followed_advice.proofs.looks.goes_on.Goals as goal

pub index-requires : goal.index-requires
index-requires c =
    let rows = c.args.rows.now in
    let row = c.index-rows-from.result in
    let at : row ≡ get_or rows c.args.own row = c.index-rows-from.is ∙ ap (λ i. get_or rows i row) c.from.ensures in
    let long = row-long c.args.flown.now rows c.args.own row c.requires.rows c.requires.own at in
    omega (arith, long, c.from-2.ensures, c.requires.in_run, c.requires.begun)
