use Rattle.std.proofs.Common.{◌≡◌, ℕ, Bool, ◌+◌, true, false, length, sym, ap, ◌∙◌, arith}
use Rattle.acas_base.specs.Encounter.{Parts}
use Rattle.summary.specs.Pairs.{equal_cycles, is_equal}
use Rattle.summary.proofs.Numbers.{count-no, count-yes}
use Rattle.summary.proofs.equal.count_equal.Goals as goal
use Rattle.summary.proofs.equal.count_equal.Goals.{else-is_equal, then-is_equal}

pub loop-earlier-preserved : goal.loop-earlier-preserved
loop-earlier-preserved c =
    let f : ℕ → Bool = is_equal c.args.state.now.journal c.args.a c.args.b in
    let n = c.loop-earlier.earlier in
    let so_far = c.loop-earlier.invariant in
    let here : 1 + n ≡ n + 1 = omega arith in
    elim c.if-is_equal.branch [
      | then-is_equal w ↦
          (let met : f (1 + n) ≡ true = ap f here ∙ sym c.is_equal.ensures ∙ w.if-is_equal.true in
          rw w.found-is (record { counted = ap (λ (k : ℕ). k + 1) so_far.counted ∙ sym (count-yes f 1 n met); few = (let few = so_far.few in omega arith) }))
      | else-is_equal w ↦
          (let unmet : f (1 + n) ≡ false = ap f here ∙ sym c.is_equal.ensures ∙ w.if-is_equal.false in
          rw w.found-is (record { counted = so_far.counted ∙ sym (count-no f 1 n unmet); few = (let few = so_far.few in omega arith) }))
    ]

pub returns : goal.returns
returns c =
    let e = c.args.state.now.encounter in
    let run = c.cycles-earlier-end.ensures.value ∙ ap (λ (p : Parts). p.cycles) c.enc.ensures in
    let all : c.loop-earlier.earlier ≡ e.cycles = omega (arith, run, c.loop-earlier-test.false) in
    c.loop-earlier.invariant.counted ∙ ap (λ (n : ℕ). length (equal_cycles c.args.state.now.journal c.args.a c.args.b n)) all
