use Rattle.std.proofs.Common.{ℕ, ◌+◌, ◌*◌, ◌/◌, ◌%◌, ◌^◌, subst, sym, arith, bit_xor}
use Rattle.res_message.specs.Words.{IsFlipped}
use Rattle.res_message.proofs.Flips.{is-flipped}
use Rattle.res_message.proofs.words.flip.Goals as goal

pub returns-clause-fields : goal.returns-clause-fields
returns-clause-fields c =
    subst (λ (k : ℕ). IsFlipped c.args.word c.args.mask (bit_xor c.args.word (k / 16 * 2 ^ 42 + k % 16 * 2 ^ 24)))
    (sym c.from-mask.ensures) (is-flipped c.args.word c.args.mask (omega (arith, c.ranges.mask)))
