use Rattle.std.proofs.Common.{◌≡◌, ℕ, ◌+◌, length, sym, ap, ap₂, ◌∙◌, arith}
use Rattle.std.specs.Prelude.{sum_by}
use Rattle.std.specs.List.{range_with_len}
use Rattle.outcomes.specs.Events.{times_with}
use Rattle.outcomes.proofs.Sums.{sum-more}
use Rattle.outcomes.proofs.events.times_in_all.Goals as goal

pub loop-own-preserved : goal.loop-own-preserved
loop-own-preserved c =
    let f : ℕ → ℕ = λ own. times_with c.args.event c.args.state.now.journal c.args.state.now.encounter.cycles own (length c.args.state.now.encounter.crafts) in
    let n = c.loop-own.own in
    let here : n ≡ 0 + n = omega arith in
    record {
      counted = ap₂ ◌+◌ c.loop-own.invariant.counted (c.times_with-found.ensures.value ∙ ap f here) ∙ sym (sum-more f 0 n);
      few = (let so_far = c.loop-own.invariant.few in let one = c.times_with-found.ensures.few in omega arith);
    }

pub returns : goal.returns
returns c =
    let f : ℕ → ℕ = λ own. times_with c.args.event c.args.state.now.journal c.args.state.now.encounter.cycles own (length c.args.state.now.encounter.crafts) in
    let all : c.loop-own.own ≡ length c.args.state.now.encounter.crafts = omega (arith, c.crafts-own-end.ensures.value, c.loop-own-test.false) in
    c.loop-own.invariant.counted ∙ ap (λ n. sum_by f (range_with_len 0 n)) all
