use Rattle.std.proofs.Common.{◌≡◌, ◌∙◌, arith, get_or, sym}
use Rattle.std.proofs.lemmas.List.{take_rest}
use Rattle.acas_text.proofs.Decimals.{below-zero, decimal-same}
use Rattle.acas_text.proofs.decimal.parse.Goals as goal

pub returns-in_default-parse_up_to-clause-none : goal.returns-in_default-parse_up_to-clause-none
returns-in_default-parse_up_to-clause-none c = λ n plain.
    let minus : get_or c.args.bytes.now 0 0 ≡ 45 = omega arith in
    let below = below-zero c.args.bytes.now n minus plain in
    c.in_default-parse_up_to.ensures below.size (omega arith, omega (arith, below.small)) (below.spelled ∙ sym (take_rest c.args.bytes.now 1))

pub returns-then-size-eq0-clause-none : goal.returns-then-size-eq0-clause-none
returns-then-size-eq0-clause-none c = λ n plain.
    let minus : get_or c.args.bytes.now 0 0 ≡ 45 = omega arith in
    let below = below-zero c.args.bytes.now n minus plain in
    omega (arith, below.some, decimal-same below.size c.in-Some.size _ (omega (arith, below.small)) (omega arith) (below.spelled ∙ sym (take_rest c.args.bytes.now 1)) c.in-Some.ensures.1)
