use Rattle.std.proofs.Common.{◌≤◌, ◌^◌, ℤ, arith, sym, subst, unsigned_abs}
use Rattle.std.proofs.lemmas.Int.{ints}
use Rattle.reasons.proofs.Moderate.{small-separation}
use Rattle.reasons.proofs.shown.separation_in_tenths.Goals as goal

pub tenths_of-requires : goal.tenths_of-requires
tenths_of-requires c =
    let small = small-separation c.args.view.now c.args.sense c.args.strength c.args.choice c.requires in
    let few : unsigned_abs c.separation.result ≤ 2 ^ 30 = subst (λ (n : ℤ). unsigned_abs n ≤ 2 ^ 30) (sym c.separation.ensures) small in
    omega (arith, ints)
