use Rattle.std.proofs.Common.{◌≡◌, ◌+◌, ◌<◌, ℕ, false, sym, ◌∙◌, arith, subst}
use Rattle.idle_notes.proofs.Ranges.{Gives, find-first, find-none, gives-more}
use Rattle.idle_notes.specs.Aircraft.{is_below_ground}
use Rattle.idle_notes.proofs.aircraft.first_below.Goals as goal

pub loop-before-init : goal.loop-before-init
loop-before-init c j low high = absurd (omega arith)

pub loop-before-preserved : goal.loop-before-preserved
loop-before-preserved c =
    gives-more (is_below_ground c.args.encounter.now c.args.craft) false 1 (c.loop-before.before + 1) c.loop-before.invariant (sym c.is_below_ground.ensures ∙ c.if-is_below_ground.false)

pub returns-then-is_below_ground-clause-value : goal.returns-then-is_below_ground-clause-value
returns-then-is_below_ground-clause-value c =
    let e = c.args.encounter.now in
    let there : c.loop-before.before + 1 < 1 + e.cycles = (let n = c.cycles-before-end.ensures.value in let t = c.loop-before-test.true in omega arith) in
    sym (find-first (is_below_ground e c.args.craft) 1 e.cycles (c.loop-before.before + 1) (omega arith) there c.loop-before.invariant (sym c.is_below_ground.ensures ∙ c.if-is_below_ground.true))

pub returns-clause-value : goal.returns-clause-value
returns-clause-value c =
    let e = c.args.encounter.now in
    let all : c.loop-before.before ≡ e.cycles = (let n = c.cycles-before-end.ensures.value in let t = c.loop-before-test.false in let high = c.loop-before.auto.before-end in omega arith) in
    let past : c.loop-before.before + 1 ≡ 1 + e.cycles = omega arith in
    sym (find-none (is_below_ground e c.args.craft) 1 e.cycles (subst (λ (n : ℕ). Gives (is_below_ground e c.args.craft) false 1 n) past c.loop-before.invariant))
