use Rattle.std.proofs.Common.{◌≡◌, ℕ, ◌+◌, cond, sym, ap, ap₂, ◌∙◌, arith}
use Rattle.outcomes.specs.Events.{happens, times}
use Rattle.outcomes.proofs.Sums.{sum-more}
use Rattle.outcomes.proofs.events.times.Goals as goal

pub loop-earlier-preserved : goal.loop-earlier-preserved
loop-earlier-preserved c =
    let f : ℕ → ℕ = λ cycle. cond (happens c.args.event c.args.state.now.journal c.args.own c.args.other cycle) 1 0 in
    let n = c.loop-earlier.earlier in
    let here : n + 1 ≡ 1 + n = omega arith in
    let one : c.once-found.result ≡ f (1 + n) = c.once-found.ensures.value ∙ ap (λ b. cond b 1 0) c.happens.ensures ∙ ap f here in
    record {
      counted = ap₂ ◌+◌ c.loop-earlier.invariant.counted one ∙ sym (sum-more f 1 n);
      few = (let so_far = c.loop-earlier.invariant.few in let one = c.once-found.ensures.few in omega arith);
    }

pub returns : goal.returns
returns c =
    let all : c.loop-earlier.earlier ≡ c.args.state.now.encounter.cycles = omega (arith, c.cycles-earlier-end.ensures.value, c.loop-earlier-test.false) in
    record {
      value = c.loop-earlier.invariant.counted ∙ ap (times c.args.event c.args.state.now.journal c.args.own c.args.other) all;
      few = omega (arith, c.loop-earlier.invariant.few, c.cycles-earlier-end.ensures.few, c.loop-earlier.auto.earlier-end);
    }
