use Rattle.std.proofs.Common.{◌≡◌, ℕ, ◌+◌, length, sym, ap, ap₂, ◌∙◌, arith}
use Rattle.outcomes.specs.Events.{times, times_with}
use Rattle.outcomes.proofs.Sums.{sum-more}
use Rattle.outcomes.proofs.events.times_with.Goals as goal

pub loop-other-preserved : goal.loop-other-preserved
loop-other-preserved c =
    let f : ℕ → ℕ = λ other. times c.args.event c.args.state.now.journal c.args.own other c.args.state.now.encounter.cycles in
    let n = c.loop-other.other in
    let here : n ≡ 0 + n = omega arith in
    record {
      counted = ap₂ ◌+◌ c.loop-other.invariant.counted (c.times-found.ensures.value ∙ ap f here) ∙ sym (sum-more f 0 n);
      few = (let so_far = c.loop-other.invariant.few in let one = c.times-found.ensures.few in omega arith);
    }

pub returns : goal.returns
returns c =
    let all : c.loop-other.other ≡ length c.args.state.now.encounter.crafts = omega (arith, c.crafts-other-end.ensures.value, c.loop-other-test.false) in
    record {
      value = c.loop-other.invariant.counted ∙ ap (times_with c.args.event c.args.state.now.journal c.args.state.now.encounter.cycles c.args.own) all;
      few = omega (arith, c.loop-other.invariant.few, c.crafts-other-end.ensures.few, c.loop-other.auto.other-end);
    }
