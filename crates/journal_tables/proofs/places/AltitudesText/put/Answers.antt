use Rattle.std.proofs.Common.{◌≡◌, ◌+◌, ◌++◌, sym, ap, ◌∙◌, subst, arith}
use Rattle.std.specs.List.{flat_map, range_with_len}
use Rattle.acas_base.specs.Encounter.{Parts}
use Rattle.acas_lines.proofs.Ranges.{flat-more}
use Rattle.air_journal.specs.States.{State}
use Rattle.journal_tables.specs.Places.{cycle_lines, lines_in}
use Rattle.journal_tables.proofs.places.AltitudesText.put.Goals as goal

pub loop-cycle-preserved : goal.loop-cycle-preserved
loop-cycle-preserved g c =
    let f = lines_in c.args.self.now.encounter c.args.self.now.journal in
    let next : c.loop-cycle.cycle + 1 ≡ 1 + c.loop-cycle.cycle = omega arith in
    subst (g.S.LineSink.took c.args.sink.now c.put_cycle.new.sink) (ap (λ n. flat_map f (range_with_len 1 c.loop-cycle.cycle) ++ f n) next ∙ sym (flat-more f 1 c.loop-cycle.cycle))
    (g.met.S.LineSink.then _ _ _ _ _ c.loop-cycle.invariant c.put_cycle.ensures)

pub returns : goal.returns
unfolding cycle_lines
returns g c =
    let e = c.args.self.now.encounter in
    let cycles = c.cycles-cycle-end.ensures.value ∙ ap (λ (p : Parts). p.cycles) (c.enc.ensures ∙ ap (λ (s : State). s.encounter) c.state.ensures) in
    let all : c.loop-cycle.cycle ≡ e.cycles = omega (arith, cycles, c.loop-cycle-test.false) in
    subst (λ n. g.S.LineSink.took c.args.sink.now c.loop-cycle.sink (flat_map (lines_in e c.args.self.now.journal) (range_with_len 1 n))) all c.loop-cycle.invariant
