use Rattle.std.proofs.Common.{◌≡◌, ◌+◌, ◌++◌, sym, ap, ap₂, ◌∙◌, subst, arith}
use Rattle.std.specs.List.{flat_map, range_with_len}
use Rattle.acas_lines.proofs.Ranges.{flat-more}
use Rattle.comparison.specs.Reports.{apart, apart_in}
use Rattle.comparison.proofs.reports.put_cycle.Goals as goal

pub loop-own-preserved : goal.loop-own-preserved
loop-own-preserved g c =
    let f = apart_in c.args.one.now c.args.other.now c.args.cycle in
    let next : c.loop-own.own ≡ 0 + c.loop-own.own = omega arith in
    let here = ap₂ apart c.line_in.ensures c.line_in-in-loop-own.ensures in
    subst (g.S.LineSink.took c.args.sink.now c.put_apart.new.sink) (ap (λ xs. flat_map f (range_with_len 0 c.loop-own.own) ++ xs) (here ∙ ap f next) ∙ sym (flat-more f 0 c.loop-own.own))
    (g.met.S.LineSink.then _ _ _ _ _ c.loop-own.invariant c.put_apart.ensures)
