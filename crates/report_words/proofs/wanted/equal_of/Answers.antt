use Rattle.std.proofs.Common.{◌≡◌, get_or, [], ap, sym, ◌∙◌}
use Rattle.acas_text.proofs.Digits.{digits-value-hex}
use Rattle.acas_text.specs.Hex.{hex}
use Rattle.std.specs.Str.Parse.{digits_value}
use Rattle.report_words.proofs.wanted.equal_of.Goals as goal

pub returns-then-one-other-clause-none : goal.returns-then-one-other-clause-none
returns-then-one-other-clause-none c = λ a b d range same.
    let first : c.args.one.now ≡ hex 6 a = ap (λ l. get_or l 0 []) same in
    let second : c.args.other.now ≡ hex 6 b = ap (λ l. get_or l 1 []) same in
    let of_one : c.in_ok-one.one ≡ a = sym (digits-value-hex 6 c.in_ok-one.one c.in_ok-one.ensures.fits) ∙ ap (digits_value 16) (sym c.in_ok-one.ensures.some ∙ first) ∙ digits-value-hex 6 a range.0 in
    let of_other : c.in_ok-other.other ≡ b = sym (digits-value-hex 6 c.in_ok-other.other c.in_ok-other.ensures.fits) ∙ ap (digits_value 16) (sym c.in_ok-other.ensures.some ∙ second) ∙ digits-value-hex 6 b range.1.0 in
    range.1.1.0 (sym of_one ∙ c.if-one-other.true ∙ of_other)
