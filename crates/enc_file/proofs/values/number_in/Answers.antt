use Rattle.std.proofs.Common.{sym, arith, w32, w64}
use Rattle.std.proofs.lemmas.Int.{ints, to_z-of_z}
use Rattle.acas_base.specs.Ranges.{IsBetween}
use Rattle.enc_file.proofs.Spelled.{fits-between, fits-plain, number-inside, number-none, number-outside}
use Rattle.enc_file.proofs.values.number_in.Goals as goal

pub returns-in_err-number : goal.returns-in_err-number
returns-in_err-number c =
    let none = sym (number-none c.args.low c.args.high c.args.bytes.now c.ranges.low c.ranges.high c.in_err-number.ensures.none) in
    rw (c.from_residual.ensures) (record { value = none; range = tt })

pub returns-then-number-from : goal.returns-then-number-from
returns-then-number-from c =
    let plain = c.in_ok-number.ensures.some in
    record {
      value = sym (number-outside c.args.low c.args.high c.in_ok-number.number c.args.bytes.now plain (λ b. omega (arith, ints, b.0, c.if-number-from.true, c.from.ensures)));
      range = tt;
    }

pub returns-then-from-number : goal.returns-then-from-number
returns-then-from-number c =
    let plain = c.in_ok-number.ensures.some in
    record {
      value = sym (number-outside c.args.low c.args.high c.in_ok-number.number c.args.bytes.now plain (λ b. omega (arith, ints, b.1, c.if-from-number.true, c.from-2.ensures)));
      range = tt;
    }

pub returns : goal.returns
returns c =
    let n = c.in_ok-number.number in
    let plain = c.in_ok-number.ensures.some in
    let inside : IsBetween c.args.low c.args.high n =
    (omega (arith, ints, c.if-number-from.false, c.from.ensures), omega (arith, ints, c.if-from-number.false, c.from-2.ensures)) in
    let narrow = to_z-of_z w32 n (fits-between c.args.low c.args.high n c.ranges.low c.ranges.high inside) in
    let wide = to_z-of_z w64 n (fits-plain n c.args.bytes.now plain) in
    rw (wide, narrow) (record { value = sym (number-inside c.args.low c.args.high n c.args.bytes.now plain inside); range = inside })
