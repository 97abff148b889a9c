use Rattle.std.proofs.Common.{◌≡◌, ◌∙◌, ◌+◌, ◌-◌, ◌++◌, ap, arith, sym, subst}
use Rattle.std.specs.List.{flat_map, range_with_len}
use Rattle.std.proofs.lemmas.List.{get_or-replicate}
use Rattle.acas_base.specs.Encounter.{Parts}
use Rattle.advisory_report.specs.Composite.{clear}
use Rattle.air_journal.proofs.Bounds.{few-crafts}
use Rattle.acas_lines.proofs.Ranges.{flat-more}
use Rattle.rec_text.proofs.Reporting.{shown-first}
use Rattle.rec_text.specs.Report.{report_in, report_lines, shown_in}
use Rattle.rec_text.proofs.report.put_report.Goals as goal

pub loop-cycle-init : goal.loop-cycle-init
loop-cycle-init g c =
    let e = c.args.state.now.encounter in
    record {
      lines = g.met.S.LineSink.nothing _;
      shown = λ own h. (
          let few = few-crafts e c.legal_law.ensures.valid in
          get_or-replicate 16 own c.clear-composites.result clear (omega arith) ∙ c.clear-composites.ensures ∙ sym (shown-first e c.args.state.now.journal c.legal_law.ensures.legal own));
    }

pub put_cycle-requires-clause-before : goal.put_cycle-requires-clause-before
put_cycle-requires-clause-before g c = λ own h.
    let back : c.loop-cycle.cycle ≡ c.loop-cycle.cycle + 1 - 1 = omega arith in
    c.loop-cycle.invariant.shown own h ∙ ap (λ n. shown_in c.args.state.now.journal n own) back

pub loop-cycle-preserved : goal.loop-cycle-preserved
loop-cycle-preserved g c =
    let f = report_in c.args.state.now.encounter c.args.state.now.journal in
    let next : c.loop-cycle.cycle + 1 ≡ 1 + c.loop-cycle.cycle = omega arith in
    record {
      lines = subst (g.S.LineSink.took c.args.sink.now c.put_cycle.new.sink) (ap (λ n. flat_map f (range_with_len 1 c.loop-cycle.cycle) ++ f n) next ∙ sym (flat-more f 1 c.loop-cycle.cycle))
          (g.met.S.LineSink.then _ _ _ _ _ c.loop-cycle.invariant.lines c.put_cycle.ensures.lines);
      shown = c.put_cycle.ensures.after;
    }

pub returns : goal.returns
unfolding report_lines
returns g c =
    let all : c.loop-cycle.cycle ≡ c.args.state.now.encounter.cycles = (let end = c.cycles-cycle-end.ensures.value ∙ ap (λ (e : Parts). e.cycles) c.enc.ensures in omega arith) in
    subst (λ n. g.S.LineSink.took c.args.sink.now c.loop-cycle.sink (flat_map (report_in c.args.state.now.encounter c.args.state.now.journal) (range_with_len 1 n))) all c.loop-cycle.invariant.lines
