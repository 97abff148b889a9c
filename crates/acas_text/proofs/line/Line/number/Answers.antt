use Rattle.std.proofs.Common.{◌≡◌, ℕ, List, ◌+◌, ◌≤◌, ◌++◌, ◌∷◌, [], ◌∙◌, ap, ap₂, arith, drop, length, length-append, sym, take}
use Rattle.std.proofs.Math.Seq.{take-add, take-append_seam}
use Rattle.std.proofs.lemmas.Fmt.{decimal_digit}
use Rattle.std.specs.Fmt.{decimal}
use Rattle.itoa.proofs.Decimal.{length_one}
use Rattle.acas_text.proofs.line.Line.number.Goals as goal

-- A text was written behind a front that stays.
filled : (len count : ℕ) (before after text behind : List ℕ) → count ≡ length text → len ≤ length before
    → take len after ≡ take len before → drop len after ≡ text ++ behind → take (len + count) after ≡ take len before ++ text
filled len count before after text behind size within same is =
    take-add len count after ∙ ap₂ (λ (front back : List ℕ). front ++ back) same (ap (take count) is ∙ ap (λ n. take n (text ++ behind)) size ∙ take-append_seam text behind)

pub push-requires : goal.push-requires
push-requires c = omega (arith, c.requires.room, length_one c.args.value c.if-value-lt10.true)

pub returns-then-value-lt10-clause-added : goal.returns-then-value-lt10-clause-added
returns-then-value-lt10-clause-added c = c.push.ensures ∙ ap (λ digits. c.args.self.now ++ digits) (sym (decimal_digit c.args.value c.if-value-lt10.true))

pub returns-then-value-lt10-clause-longer : goal.returns-then-value-lt10-clause-longer
returns-then-value-lt10-clause-longer c = ap length c.push.ensures ∙ omega (arith, length-append c.args.self.now ((48 + c.args.value) ∷ []), length_one c.args.value c.if-value-lt10.true)

pub returns-clause-added : goal.returns-clause-added
returns-clause-added c =
    let e = c.write_digits.ensures in
    let start : c.write_digits.result ≡ c.self.inside.len = omega (arith, e.start, c.count_digits-count.ensures) in
    filled c.self.inside.len c.count_digits-count.result c.self.inside.bytes c.write_digits.new.buf (decimal c.args.value) _ c.count_digits-count.ensures
    (omega (arith, c.self.told, c.self.invariant))
    (rw (start) at e.before) (rw (start) at e.written)
    ∙ ap (λ line. line ++ decimal c.args.value) c.self.view_is
