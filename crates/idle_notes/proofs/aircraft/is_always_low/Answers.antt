use Rattle.std.proofs.Common.{◌≡◌, ◌+◌, ◌<◌, ℕ, Bool, true, ap, sym, ◌∙◌, arith, rules, subst, to_z, of_z, w32}
use Rattle.std.specs.Prelude.{is_none}
use Rattle.std.proofs.lemmas.Int.{to_z-of_z}
use Rattle.acas_base.specs.declared.level.Level.{Level}
use Rattle.sens_table.specs.Above.{level_of}
use Rattle.sens_table.specs.Run.{above_in}
use Rattle.sens_table.specs.declared.above.Above.{Above}
use Rattle.idle_notes.proofs.Ranges.{Gives, all-breaks, all-hold, gives-more}
use Rattle.idle_notes.specs.Aircraft.{is_low_in}
use Rattle.idle_notes.proofs.aircraft.is_always_low.Goals as goal

pub loop-before-init : goal.loop-before-init
loop-before-init c = (λ j low high. absurd (omega arith), c.none-above.ensures c.args.encounter.now.profile c.args.encounter.now.elevation)

pub loop-before-preserved : goal.loop-before-preserved
loop-before-preserved c =
    let e = c.args.encounter.now in
    let altitude = to_z-of_z w32 c.own_altitude-altitude.result (search rules) ∙ c.own_altitude-altitude.ensures.value in
    let above = c.go_on-above.ensures c.args.craft c.loop-before.invariant.1 altitude in
    let level = c.level.ensures.value ∙ ap level_of above in
    let low = c.has_none.ensures ∙ ap (λ (l : Level). is_none l.ra) level in
    (gives-more (is_low_in e c.args.craft) true 1 (c.loop-before.before + 1) c.loop-before.invariant.0 (sym low ∙ c.if-not-has_none.false), above)

pub returns-then-not-has_none : goal.returns-then-not-has_none
returns-then-not-has_none c =
    let e = c.args.encounter.now in
    let altitude = to_z-of_z w32 c.own_altitude-altitude.result (search rules) ∙ c.own_altitude-altitude.ensures.value in
    let above = c.go_on-above.ensures c.args.craft c.loop-before.invariant.1 altitude in
    let level = c.level.ensures.value ∙ ap level_of above in
    let low = c.has_none.ensures ∙ ap (λ (l : Level). is_none l.ra) level in
    let there : c.loop-before.before + 1 < 1 + e.cycles = (let n = c.cycles-before-end.ensures.value in let t = c.loop-before-test.true in omega arith) in
    sym (all-breaks (is_low_in e c.args.craft) 1 e.cycles (c.loop-before.before + 1) (omega arith) there (sym low ∙ c.if-not-has_none.true))

pub returns : goal.returns
returns c =
    let e = c.args.encounter.now in
    let all : c.loop-before.before ≡ e.cycles = (let n = c.cycles-before-end.ensures.value in let t = c.loop-before-test.false in let high = c.loop-before.auto.before-end in omega arith) in
    let past : c.loop-before.before + 1 ≡ 1 + e.cycles = omega arith in
    sym (all-hold (is_low_in e c.args.craft) 1 e.cycles (subst (λ (n : ℕ). Gives (is_low_in e c.args.craft) true 1 n) past c.loop-before.invariant.0))
