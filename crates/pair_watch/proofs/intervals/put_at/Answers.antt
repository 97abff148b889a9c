use Rattle.std.proofs.Common.{◌≡◌, ◌+◌, ◌++◌, sym, ap, ◌∙◌, subst, arith}
use Rattle.std.specs.List.{flat_map, range_with_len}
use Rattle.pair_watch.specs.Watching.{lines_of_low}
use Rattle.acas_lines.proofs.Ranges.{flat-more}
use Rattle.pair_watch.proofs.intervals.put_at.Goals as goal

pub loop-low-preserved : goal.loop-low-preserved
loop-low-preserved g c =
    let f = lines_of_low c.args.state.now.encounter c.args.state.now.journal c.args.reader.now.read c.args.at in
    let next : c.loop-low.low ≡ 0 + c.loop-low.low = omega arith in
    subst (g.S.LineSink.took c.args.sink.now c.put_changed.new.sink) (ap (λ n. flat_map f (range_with_len 0 c.loop-low.low) ++ f n) next ∙ sym (flat-more f 0 c.loop-low.low))
    (g.met.S.LineSink.then _ _ _ _ _ c.loop-low.invariant c.put_changed.ensures)
