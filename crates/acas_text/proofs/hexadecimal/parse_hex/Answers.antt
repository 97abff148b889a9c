use Rattle.std.proofs.Common.{◌∙◌, arith, ap, get_or, ◌∷◌, [], ◌++◌, add-one, length}
use Rattle.std.proofs.lemmas.List.{take_more}
use Rattle.acas_text.specs.Hex.{hex}
use Rattle.acas_text.proofs.Digits.{length-hex, hex-digit, hex-none, hex-more, pow-small, pow-step}
use Rattle.acas_text.proofs.hexadecimal.parse_hex.Goals as goal

pub returns-in_err-digit : goal.returns-in_err-digit
returns-in_err-digit c = rw (c.from_residual.ensures) (λ n few e.
    let d = hex-digit c.args.digits n c.loop-glyph.glyph-index (omega arith) in
    c.in_err-digit.ensures d.value d.small (d.is ∙ ap (λ t. get_or t c.loop-glyph.glyph-index 0) e))

pub overflow_mul-value : goal.overflow_mul-value
overflow_mul-value c = omega (arith, pow-small c.loop-glyph.glyph-index c.loop-glyph.value c.loop-glyph.invariant.small (omega arith))

pub overflow_add-value : goal.overflow_add-value
overflow_add-value c = omega (arith, pow-small c.loop-glyph.glyph-index c.loop-glyph.value c.loop-glyph.invariant.small (omega arith))

pub loop-glyph-preserved : goal.loop-glyph-preserved
loop-glyph-preserved c =
    let i = c.loop-glyph.glyph-index in
    let text = c.args.text.now in
    let more = take_more text i 0 (omega arith) in
    let read = more ∙ ap (λ t. t ++ get_or text i 0 ∷ []) c.loop-glyph.invariant.read ∙ ap (λ g. hex i c.loop-glyph.value ++ g ∷ []) c.in_ok-digit.ensures.1
    ∙ hex-more i c.loop-glyph.value c.in_ok-digit.digit c.in_ok-digit.ensures.0 in
    rw (c.from.ensures, add-one) (record {
      small = pow-step i c.loop-glyph.value c.in_ok-digit.digit c.loop-glyph.invariant.small (omega arith);
      read = rw (add-one) at read;
    })

pub loop-glyph-init : goal.loop-glyph-init
loop-glyph-init c = record { small = omega arith; read = hex-none }

pub returns-then-text-digits : goal.returns-then-text-digits
returns-then-text-digits c = λ n few e. absurd (omega (arith, length-hex c.args.digits n, ap length e))
