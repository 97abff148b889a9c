use Rattle.std.proofs.Common.{◌≡◌, ℤ, pos, ◌+ℤ◌, ◌*ℤ◌, arith}
use Rattle.std.specs.Int.{int_div_euclid}
use Rattle.std.proofs.lemmas.Int.{ints}
use Rattle.acas_num.proofs.Quotients.{quotient}
use Rattle.acas_num.specs.Division.{IsQuotient}
use Rattle.followed_advice.specs.Following.{IsNearest, sixtieths}
use Rattle.followed_advice.proofs.laws.rounding_law.Goals as goal

near-by : (altitude q : ℤ) → IsQuotient ((pos 60 *ℤ altitude) +ℤ pos 1024) (pos 2048) q → IsNearest altitude q
near-by altitude q is = record { not_above = omega (arith, ints, is.within); not_below = omega (arith, ints, is.no_more) }

only-by : (altitude q z : ℤ) → IsQuotient ((pos 60 *ℤ altitude) +ℤ pos 1024) (pos 2048) q → IsNearest altitude z → z ≡ q
only-by altitude q z is near = omega (arith, ints, is.within, is.no_more, near.not_above, near.not_below)

divides : (altitude : ℤ) → IsQuotient ((pos 60 *ℤ altitude) +ℤ pos 1024) (pos 2048) (int_div_euclid ((pos 60 *ℤ altitude) +ℤ pos 1024) (pos 2048))
divides altitude = quotient ((pos 60 *ℤ altitude) +ℤ pos 1024) (pos 2048) (omega (arith, ints))

pub returns-clause-near : goal.returns-clause-near
unfolding sixtieths
returns-clause-near c altitude = near-by altitude _ (divides altitude)

pub returns-clause-only : goal.returns-clause-only
unfolding sixtieths
returns-clause-only c altitude z is = only-by altitude _ z (divides altitude) is
