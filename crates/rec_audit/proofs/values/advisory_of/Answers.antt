use Rattle.std.proofs.Common.{◌∙◌, ◌++◌, ◌∷◌, [], ap, sym, arith}
use Rattle.advisory_report.specs.Cells.{flag}
use Rattle.rec_text.proofs.Letters.{age-parts, without-front}
use Rattle.rec_audit.proofs.values.advisory_of.Goals as goal

pub returns-in_err-age : goal.returns-in_err-age
returns-in_err-age c =
    let r = c.before_flag-turned in
    let x = c.before_flag-crossing in
    let k = c.before_flag-corrective in
    rw (c.from_residual.ensures) (λ it fits e.
    let whole = ap (λ t. t ++ flag r.result.1 (114 ∷ [])) (ap (λ t. t ++ flag x.result.1 (120 ∷ [])) (sym k.ensures.whole) ∙ sym x.ensures.whole) ∙ sym r.ensures.whole ∙ sym e in
    let parts = age-parts it k.result.0.now k.result.1 x.result.1 r.result.1 (omega (arith, fits.1)) whole
    (without-front 99 x.result.0.now k.result.0.now k.result.1 k.ensures.whole k.ensures.none)
    (rw k.ensures.whole at (without-front 120 r.result.0.now x.result.0.now x.result.1 x.ensures.whole x.ensures.none))
    (rw (x.ensures.whole, k.ensures.whole) at (without-front 114 c.args.text.now r.result.0.now r.result.1 r.ensures.whole r.ensures.none)) in
    c.in_err-age.ensures it.age fits (sym parts.age))
