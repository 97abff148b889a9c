use Rattle.std.proofs.Common.{◌≡◌, ◌+◌, ◌-◌, ◌++◌, ap, sym, ◌∙◌, subst, arith}
use Rattle.std.specs.List.{flat_map, range_with_len}
use Rattle.acas_lines.proofs.Ranges.{flat-more}
use Rattle.response.specs.Response.{pair_lines}
use Rattle.response.proofs.pairs.put_lines_with.Goals as goal

pub loop-b-preserved : goal.loop-b-preserved
loop-b-preserved g c =
    let f = pair_lines c.args.state.now.encounter c.args.state.now.journal c.args.a in
    let from = c.args.a + 1 in
    let b = c.loop-b.b in
    let next : from + (b - from) ≡ b = (let low = c.loop-b.auto.b in omega arith) in
    let more : b - from + 1 ≡ b + 1 - from = (let low = c.loop-b.auto.b in omega arith) in
    subst (g.S.LineSink.took c.args.sink.now c.put_pair.new.sink)
    (ap (λ k. flat_map f (range_with_len from (b - from)) ++ f k) (sym next) ∙ sym (flat-more f from (b - from)) ∙ ap (λ k. flat_map f (range_with_len from k)) more)
    (g.met.S.LineSink.then _ _ _ _ _ c.loop-b.invariant c.put_pair.ensures)
