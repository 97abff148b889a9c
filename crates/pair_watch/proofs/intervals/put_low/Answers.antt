use Rattle.std.proofs.Common.{◌≡◌, ℕ, ◌+◌, ◌++◌, List, sym, ap, ◌∙◌, subst, arith}
use Rattle.std.specs.List.{flat_map, range_with_len}
use Rattle.std.specs.Prelude.{option_to_list}
use Rattle.pair_watch.specs.Watching.{line_at}
use Rattle.acas_lines.proofs.Ranges.{flat-more}
use Rattle.pair_watch.proofs.intervals.put_low.Goals as goal

pub loop-high-preserved : goal.loop-high-preserved
loop-high-preserved g c =
    let f : ℕ → List (List ℕ) = λ high. option_to_list (line_at c.args.state.now.encounter c.args.state.now.journal c.args.reader.now.read c.args.at c.args.low high) in
    let next : c.loop-high.high ≡ 0 + c.loop-high.high = omega arith in
    subst (g.S.LineSink.took c.args.sink.now c.put_pair.new.sink) (ap (λ n. flat_map f (range_with_len 0 c.loop-high.high) ++ f n) next ∙ sym (flat-more f 0 c.loop-high.high))
    (g.met.S.LineSink.then _ _ _ _ _ c.loop-high.invariant c.put_pair.ensures)
