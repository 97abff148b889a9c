use Rattle.std.proofs.Common.{◌≡◌, ℕ, ◌+◌, ◌-◌, ◌<◌, ◌≤◌, refl, sym, ap₂, ◌∙◌, subst, arith}
use Rattle.seconds_panel.proofs.Looking.{more, same-size}
use Rattle.seconds_panel.specs.Own.{tested}
use Rattle.seconds_panel.specs.Seconds.{AreSeconds, seconds_in}
use Rattle.seconds_panel.proofs.seconds.all_seconds.Goals as goal

pub loop-cycle-init : goal.loop-cycle-init
loop-cycle-init c = record {
  belongs = c.new-craft.ensures.belongs;
  own = c.new-craft.ensures.own;
  looks = c.new-craft.ensures.cycle;
  told = λ k first last. absurd (omega arith);
  size = refl;
}

pub loop-cycle-preserved : goal.loop-cycle-preserved
loop-cycle-preserved c =
    let e = c.args.encounter.now in
    let pair = c.args.pair in
    let cycle = c.loop-cycle.cycle in
    let inv = c.loop-cycle.invariant in
    let looks = inv.looks in
    let begun = c.loop-cycle.auto.cycle in
    let now : c.loop-cycle.craft.cycle + 1 ≡ cycle = omega arith in
    let same = c.next_seconds.ensures.value ∙ ap₂ (λ (own n : ℕ). seconds_in e (tested own pair.other) n) inv.own now in
    let next = c.next_seconds.ensures.cycle in
    record {
      belongs = c.next_seconds.ensures.belongs;
      own = c.next_seconds.ensures.own ∙ inv.own;
      looks = omega (arith, next, looks);
      told = more e pair cycle c.from.result c.loop-cycle.list c.next_seconds.result inv.told inv.size (omega arith) (omega arith) c.from.ensures same;
      size = same-size c.loop-cycle.list c.from.result c.next_seconds.result inv.size;
    }

pub returns : goal.returns
returns c =
    let e = c.args.encounter.now in
    let count = c.cycles-cycle-end.ensures.value in
    let all : c.loop-cycle.cycle - 1 ≡ e.cycles = (let end = c.loop-cycle-test.false in let most = c.loop-cycle.auto.cycle-end in omega (arith, count)) in
    subst (λ (n : ℕ). AreSeconds e c.args.pair n c.loop-cycle.list) all c.loop-cycle.invariant.told
