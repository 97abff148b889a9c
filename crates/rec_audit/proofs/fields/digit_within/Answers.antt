use Rattle.std.proofs.Common.{◌∙◌, ◌+◌, ◌≡◌, ◌∷◌, [], sym, ap, arith}
use Rattle.std.proofs.lemmas.Fmt.{decimal_digit}
use Rattle.rec_audit.proofs.Short.{one-digit}
use Rattle.rec_audit.proofs.fields.digit_within.Goals as goal
use Rattle.rec_audit.proofs.fields.digit_within.Goals.{then-value-low-via-then-value-low, then-value-low-via-else-value-low+then-high-value}

pub returns-then-value-low : goal.returns-then-value-low
returns-then-value-low c = λ n within e.
    let is = (one-digit n c.args.glyph (omega (arith, within)) e).1 in
    elim c.then-value-low.branch [ then-value-low-via-then-value-low w ↦ omega (arith, within, is) | then-value-low-via-else-value-low+then-high-value w ↦ omega (arith, within, is) ]

pub returns-else-high-value : goal.returns-else-high-value
returns-else-high-value c =
    let glyph : 48 + c.from-value.result ≡ c.args.glyph = omega arith in
    ((omega arith, omega arith), sym (decimal_digit c.from-value.result (omega arith) ∙ ap (λ g. g ∷ []) glyph))

pub returns-in_default : goal.returns-in_default
returns-in_default c = λ n within e. let is = one-digit n c.args.glyph (omega (arith, within)) e in omega (arith, is.0, is.1)

pub returns-in_default-2 : goal.returns-in_default-2
returns-in_default-2 c = λ n within e. let is = one-digit n c.args.glyph (omega (arith, within)) e in omega (arith, is.0, is.1)
