use Rattle.std.proofs.Common.{◌≡◌, ◌+◌, ◌<◌, ℕ, true, length, ap, sym, ◌∙◌, arith, subst}
use Rattle.idle_notes.proofs.Ranges.{Gives, all-breaks, all-hold, gives-more}
use Rattle.idle_notes.specs.Aircraft.{is_far_from}
use Rattle.idle_notes.proofs.aircraft.is_far_from_all.Goals as goal

pub loop-other-init : goal.loop-other-init
loop-other-init c j low high = absurd (omega arith)

pub loop-other-preserved : goal.loop-other-preserved
loop-other-preserved c =
    gives-more (is_far_from c.args.encounter.now c.args.craft) true 0 c.loop-other.other c.loop-other.invariant (sym c.is_far_from.ensures ∙ c.if-not-is_far_from.false)

pub returns-then-not-is_far_from : goal.returns-then-not-is_far_from
returns-then-not-is_far_from c =
    let e = c.args.encounter.now in
    let count = ap length c.crafts.ensures.value in
    let there : c.loop-other.other < 0 + length e.crafts = (let t = c.loop-other-test.true in omega arith) in
    sym (all-breaks (is_far_from e c.args.craft) 0 (length e.crafts) c.loop-other.other (omega arith) there (sym c.is_far_from.ensures ∙ c.if-not-is_far_from.true))

pub returns : goal.returns
returns c =
    let e = c.args.encounter.now in
    let count = ap length c.crafts.ensures.value in
    let all : c.loop-other.other ≡ 0 + length e.crafts = (let t = c.loop-other-test.false in let high = c.loop-other.auto.other-end in omega arith) in
    sym (all-hold (is_far_from e c.args.craft) 0 (length e.crafts) (subst (λ (n : ℕ). Gives (is_far_from e c.args.craft) true 0 n) all c.loop-other.invariant))
