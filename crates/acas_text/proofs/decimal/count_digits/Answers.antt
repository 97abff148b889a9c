use Rattle.std.proofs.Common.{arith, sym}
use Rattle.itoa.proofs.Decimal.{length_one}
use Rattle.acas_text.proofs.Decimals.{length-from-ten}
use Rattle.acas_text.proofs.decimal.count_digits.Goals as goal

pub returns-in-0-to-9 : goal.returns-in-0-to-9
returns-in-0-to-9 c = sym (length_one c.args.value (omega (arith, c.in-0-to-9)))

pub returns-in-10-to-99 : goal.returns-in-10-to-99
returns-in-10-to-99 c = sym (length-from-ten 0 c.args.value (omega (arith, c.in-10-to-99)) (omega (arith, c.in-10-to-99)) (omega (arith, c.in-10-to-99)))

pub returns-in-100-to-999 : goal.returns-in-100-to-999
returns-in-100-to-999 c = sym (length-from-ten 1 c.args.value (omega (arith, c.in-100-to-999)) (omega (arith, c.in-100-to-999)) (omega (arith, c.in-100-to-999)))

pub returns-in-1000-to-9999 : goal.returns-in-1000-to-9999
returns-in-1000-to-9999 c = sym (length-from-ten 2 c.args.value (omega (arith, c.in-1000-to-9999)) (omega (arith, c.in-1000-to-9999)) (omega (arith, c.in-1000-to-9999)))

pub returns-in-10000-to-99999 : goal.returns-in-10000-to-99999
returns-in-10000-to-99999 c = sym (length-from-ten 3 c.args.value (omega (arith, c.in-10000-to-99999)) (omega (arith, c.in-10000-to-99999)) (omega (arith, c.in-10000-to-99999)))

pub returns-in-100000-to-999999 : goal.returns-in-100000-to-999999
returns-in-100000-to-999999 c = sym (length-from-ten 4 c.args.value (omega (arith, c.in-100000-to-999999)) (omega (arith, c.in-100000-to-999999)) (omega (arith, c.in-100000-to-999999)))

pub returns-in-1000000-to-9999999 : goal.returns-in-1000000-to-9999999
returns-in-1000000-to-9999999 c = sym (length-from-ten 5 c.args.value (omega (arith, c.in-1000000-to-9999999)) (omega (arith, c.in-1000000-to-9999999)) (omega (arith, c.in-1000000-to-9999999)))

pub returns-in-10000000-to-99999999 : goal.returns-in-10000000-to-99999999
returns-in-10000000-to-99999999 c = sym (length-from-ten 6 c.args.value (omega (arith, c.in-10000000-to-99999999)) (omega (arith, c.in-10000000-to-99999999)) (omega (arith, c.in-10000000-to-99999999)))

pub returns-in-100000000-to-999999999 : goal.returns-in-100000000-to-999999999
returns-in-100000000-to-999999999 c = sym (length-from-ten 7 c.args.value (omega (arith, c.in-100000000-to-999999999)) (omega (arith, c.in-100000000-to-999999999)) (omega (arith, c.in-100000000-to-999999999)))

pub returns-in_default : goal.returns-in_default
returns-in_default c = sym (length-from-ten 8 c.args.value (omega (arith, c.in_default)) (omega (arith, c.requires)) (omega (arith, c.requires)))
