use Rattle.std.proofs.Common.{◌≡◌, ℕ, suc, ◌+◌, ◌-◌, length, sym, ap, ◌∙◌, arith}
use Rattle.std.proofs.lemmas.List.FromFn.{length-map-range_with_len}
use Rattle.air_rules.specs.Journal.{sends}
use Rattle.deliveries.specs.Mishaps.{befallen_of, befalls}
use Rattle.deliveries.specs.Rows.{row_end}
use Rattle.deliveries.proofs.Marking.{end-here, end-on, marked-past}
use Rattle.deliveries.proofs.deliveries.Deliveries.row_end.Goals as goal

pub loop-after-init : goal.loop-after-init
loop-after-init c =
    let s = c.args.self.now in
    let flags = befallen_of s.encounter s.journal c.args.mishap c.args.sender c.args.receiver in
    ap (λ (m : ℕ). row_end flags m c.args.number) (let same : length flags ≡ length flags + c.args.number - c.args.number = omega arith in same)

pub returns-then-not-is_marked-clause-value : goal.returns-then-not-is_marked-clause-value
returns-then-not-is_marked-clause-value c =
    let s = c.args.self.now in
    let flags = befallen_of s.encounter s.journal c.args.mishap c.args.sender c.args.receiver in
    sym (c.loop-after.invariant ∙ end-here flags _ c.loop-after.after (sym c.is_marked.ensures ∙ c.if-not-is_marked.true))

pub loop-after-preserved : goal.loop-after-preserved
loop-after-preserved c =
    let s = c.args.self.now in
    let flags = befallen_of s.encounter s.journal c.args.mishap c.args.sender c.args.receiver in
    let after = c.loop-after.after in
    let number = c.args.number in
    let within = c.loop-after-test.true in
    let n = c.sent-sent.ensures.value in
    let size : length flags ≡ sends s.journal c.args.sender c.args.receiver = length-map-range_with_len (befalls s.encounter s.journal c.args.mishap c.args.sender c.args.receiver) 1 (sends s.journal c.args.sender c.args.receiver) in
    let low = c.loop-after.auto.after in
    let more : length flags + number - after ≡ suc (length flags + number - (after + 1)) = omega arith in
    c.loop-after.invariant ∙ ap (λ (m : ℕ). row_end flags m after) more ∙ end-on flags _ after (sym c.is_marked.ensures ∙ c.if-not-is_marked.false)

pub returns-clause-value : goal.returns-clause-value
returns-clause-value c =
    let s = c.args.self.now in
    let flags = befallen_of s.encounter s.journal c.args.mishap c.args.sender c.args.receiver in
    let after = c.loop-after.after in
    let n = c.sent-sent.ensures.value in
    let size : length flags ≡ sends s.journal c.args.sender c.args.receiver = length-map-range_with_len (befalls s.encounter s.journal c.args.mishap c.args.sender c.args.receiver) 1 (sends s.journal c.args.sender c.args.receiver) in
    let past = c.loop-after-test.false in
    let high = c.loop-after.auto.after-end in
    let within = c.requires.last in
    let all : after ≡ length flags = omega arith in
    n ∙ sym size ∙ sym all ∙ sym (c.loop-after.invariant ∙ end-here flags _ after (marked-past flags (after + 1) (omega arith)))
