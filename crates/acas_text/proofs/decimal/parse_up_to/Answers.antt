use Rattle.std.proofs.Common.{◌≡◌, ◌+◌, ◌*◌, ◌∙◌, ℕ, List, ap, arith, length, subst, sym, take}
use Rattle.std.proofs.Math.Seq.{take-length}
use Rattle.std.proofs.lemmas.Int.Digits.{digits_more, digits_value_more}
use Rattle.std.specs.Fmt.{decimal}
use Rattle.std.specs.Str.Parse.{AllDigits, digits_value}
use Rattle.acas_text.proofs.Decimals.{decimal-digit, decimal-front, decimal-short, short-decimal}
use Rattle.acas_text.specs.Decimal.{IsShort}
use Rattle.acas_text.proofs.decimal.parse_up_to.Goals as goal
use Rattle.acas_text.proofs.decimal.parse_up_to.Goals.{After-from}

pub returns-then-not-is_short : goal.returns-then-not-is_short
returns-then-not-is_short c = λ n within e. c.if-not-is_short.ensures (subst IsShort e (decimal-short n (omega (arith, within))))

pub returns-in_err-digit : goal.returns-in_err-digit
returns-in_err-digit c = rw (c.from_residual.ensures) (λ n within e. omega (arith, decimal-digit n c.loop-glyph.glyph-index c.args.bytes.now (omega (arith, within)) e (omega arith), c.in_err-digit.ensures))

-- The value with one digit more.
more : (c : After-from) → c.loop-glyph.value * 10 + c.from.result ≡ digits_value 10 (take (c.loop-glyph.glyph-index + 1) c.args.bytes.now)
more c =
    let before = ap (λ v. v * 10) c.loop-glyph.invariant.value_is in
    omega (arith, before, digits_value_more 10 c.args.bytes.now c.loop-glyph.glyph-index (omega arith), c.in_ok-digit.ensures.1, c.from.ensures)

pub returns-then-high-value : goal.returns-then-high-value
returns-then-high-value c = λ n within e.
    omega (arith, within, decimal-front n (c.loop-glyph.glyph-index + 1) c.args.bytes.now (omega (arith, within)) e, more (goal.at.returns-then-high-value c).After-from)

pub loop-glyph-preserved : goal.loop-glyph-preserved
loop-glyph-preserved c = record {
  digits = digits_more 10 c.args.bytes.now c.loop-glyph.glyph-index (omega arith) c.loop-glyph.invariant.digits (omega (arith, c.in_ok-digit.ensures));
  value_is = more (goal.at.loop-glyph-preserved c).After-from;
  within = omega arith;
}

-- The value of all digits.
whole : (value i : ℕ) (bytes : List ℕ) → value ≡ digits_value 10 (take i bytes) → length bytes ≡ i → value ≡ digits_value 10 bytes
whole value i bytes is all = is ∙ ap (λ k. digits_value 10 (take k bytes)) (sym all) ∙ ap (digits_value 10) (take-length bytes)

pub returns : goal.returns
returns c =
    let bytes = c.args.bytes.now in
    let i = c.loop-glyph.invariant in
    let all : length bytes ≡ c.loop-glyph.glyph-index = omega arith in
    let value = whole c.loop-glyph.value c.loop-glyph.glyph-index bytes i.value_is all in
    let digits = subst (AllDigits 10) (ap (λ k. take k bytes) (sym all) ∙ take-length bytes) i.digits in
    ((omega arith, i.within), short-decimal bytes c.if-not-is_short.ensures digits (omega (arith, value, i.within)) ∙ ap decimal (sym value))
