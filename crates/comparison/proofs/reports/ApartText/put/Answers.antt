use Rattle.std.proofs.Common.{◌≡◌, ◌+◌, ◌++◌, sym, ap, ◌∙◌, subst, arith}
use Rattle.std.specs.List.{flat_map, range_with_len}
use Rattle.acas_base.specs.Encounter.{Parts}
use Rattle.acas_lines.proofs.Ranges.{flat-more}
use Rattle.comparison.specs.Reports.{apart_in_cycle, apart_lines}
use Rattle.comparison.proofs.reports.ApartText.put.Goals as goal

pub loop-before-preserved : goal.loop-before-preserved
loop-before-preserved g c =
    let f = apart_in_cycle c.args.self.now.one.now c.args.self.now.other.now in
    let next : c.loop-before.before + 1 ≡ 1 + c.loop-before.before = omega arith in
    subst (g.S.LineSink.took c.args.sink.now c.put_cycle.new.sink) (ap (λ n. flat_map f (range_with_len 1 c.loop-before.before) ++ f n) next ∙ sym (flat-more f 1 c.loop-before.before))
    (g.met.S.LineSink.then _ _ _ _ _ c.loop-before.invariant c.put_cycle.ensures)

pub returns : goal.returns
unfolding apart_lines
returns g c =
    let one = c.args.self.now.one.now in
    let f = apart_in_cycle one c.args.self.now.other.now in
    let all : c.loop-before.before ≡ one.encounter.cycles = (let end = c.cycles-before-end.ensures.value ∙ ap (λ (e : Parts). e.cycles) c.enc.ensures in omega arith) in
    subst (λ n. g.S.LineSink.took c.args.sink.now c.loop-before.sink (flat_map f (range_with_len 1 n))) all c.loop-before.invariant
