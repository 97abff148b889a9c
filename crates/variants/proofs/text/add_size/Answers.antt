use Rattle.std.proofs.Common.{◌≡◌, ◌++◌, ◌∷◌, [], ◌∙◌, ap, append_assoc, arith, sym, ◌+◌, ◌/◌, ◌%◌}
use Rattle.std.specs.Fmt.{decimal}
use Rattle.std.proofs.lemmas.Fmt.{decimal_digit, decimal_step}
use Rattle.variants.proofs.text.add_size.Goals as goal

pub returns-clause-added : goal.returns-clause-added
returns-clause-added c =
    let n = c.args.size in
    let line = c.args.line.now in
    let last : decimal (n % 10) ≡ (48 + n % 10) ∷ [] = decimal_digit (n % 10) (omega arith) in
    let whole : decimal n ≡ decimal (n / 10) ++ decimal (n % 10) = decimal_step n (omega arith) (omega arith) ∙ ap (λ d. decimal (n / 10) ++ d) (sym last) in
    c.u16-2.ensures.added ∙ ap (λ l. l ++ decimal (n % 10)) c.u32.ensures.added ∙ append_assoc line (decimal (n / 10)) (decimal (n % 10)) ∙ ap (λ d. line ++ d) (sym whole)
