use Rattle.std.proofs.Common.{◌≡◌, ℕ, Bool, ◌+◌, ◌++◌, true, false, List, sym, ap, ap₂, ◌∙◌, subst, arith}
use Rattle.summary.specs.Pairs.{begins_equal, row_if_told, row_lines}
use Rattle.summary.proofs.Numbers.{count-no, count-yes}
use Rattle.summary.proofs.Telling.{rows-no, rows-yes}
use Rattle.summary.proofs.equal.put_rows.Goals as goal
use Rattle.summary.proofs.equal.put_rows.Goals.{else-begins_equal, then-begins_equal}

pub loop-earlier-preserved : goal.loop-earlier-preserved
loop-earlier-preserved g c =
    let J = c.args.state.now.journal in
    let cycles = c.args.state.now.encounter.cycles in
    let a = c.args.a in
    let b = c.args.b in
    let f : ℕ → Bool = begins_equal J a b in
    let n = c.loop-earlier.earlier in
    let so_far = c.loop-earlier.invariant in
    let here : 1 + n ≡ n + 1 = omega arith in
    elim c.if-begins_equal.branch [
      | then-begins_equal w ↦
          (let met : f (1 + n) ≡ true = ap f here ∙ sym c.begins_equal.ensures ∙ w.if-begins_equal.true in
          let row = ap₂ (row_if_told J cycles a b) (sym here) so_far.counted in
          let put = g.met.S.LineSink.then _ _ _ _ _ so_far.put w.put_row.ensures in
          let all = subst (g.S.LineSink.took c.args.sink.now w.put_row.new.sink) (ap (λ (l : List (List ℕ)). row_lines J cycles a b n ++ l) row ∙ rows-yes J cycles a b n met) put in
          rw (w.found-is, w.sink-is) (record { put = all; counted = ap (λ (k : ℕ). k + 1) so_far.counted ∙ sym (count-yes f 1 n met); few = (let few = so_far.few in omega arith) }))
      | else-begins_equal w ↦
          (let unmet : f (1 + n) ≡ false = ap f here ∙ sym c.begins_equal.ensures ∙ w.if-begins_equal.false in
          let all = subst (g.S.LineSink.took c.args.sink.now c.loop-earlier.sink) (rows-no J cycles a b n unmet) so_far.put in
          rw (w.found-is, w.sink-is) (record { put = all; counted = so_far.counted ∙ sym (count-no f 1 n unmet); few = (let few = so_far.few in omega arith) }))
    ]
