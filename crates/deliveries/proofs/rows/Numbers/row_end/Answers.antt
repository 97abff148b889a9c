use Rattle.std.proofs.Common.{◌≡◌, ℕ, suc, ◌+◌, ◌-◌, length, sym, ap, ◌∙◌, arith}
use Rattle.deliveries.specs.Rows.{row_end}
use Rattle.deliveries.proofs.Marking.{end-here, end-on, marked-past}
use Rattle.deliveries.proofs.rows.Numbers.row_end.Goals as goal

pub loop-after-init : goal.loop-after-init
loop-after-init c =
    let flags = c.args.self.now in
    ap (λ (m : ℕ). row_end flags m c.args.number) (let same : length flags ≡ length flags + c.args.number - c.args.number = omega arith in same)

pub returns-then-not-is_marked-clause-value : goal.returns-then-not-is_marked-clause-value
returns-then-not-is_marked-clause-value c =
    sym (c.loop-after.invariant ∙ end-here c.args.self.now _ c.loop-after.after (sym c.is_marked.ensures ∙ c.if-not-is_marked.true))

pub loop-after-preserved : goal.loop-after-preserved
loop-after-preserved c =
    let flags = c.args.self.now in
    let after = c.loop-after.after in
    let number = c.args.number in
    let within = c.loop-after-test.true in
    let n = c.len-after-end.ensures.value in
    let low = c.loop-after.auto.after in
    let more : length flags + number - after ≡ suc (length flags + number - (after + 1)) = omega arith in
    c.loop-after.invariant ∙ ap (λ (m : ℕ). row_end flags m after) more ∙ end-on flags _ after (sym c.is_marked.ensures ∙ c.if-not-is_marked.false)

pub returns-clause-value : goal.returns-clause-value
returns-clause-value c =
    let flags = c.args.self.now in
    let after = c.loop-after.after in
    let n = c.len-after-end.ensures.value in
    let past = c.loop-after-test.false in
    let high = c.loop-after.auto.after-end in
    let within = c.requires.within in
    let all : after ≡ length flags = omega arith in
    c.len.ensures.value ∙ sym all ∙ sym (c.loop-after.invariant ∙ end-here flags _ after (marked-past flags (after + 1) (omega arith)))
