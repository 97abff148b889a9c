use Rattle.std.proofs.Common.{◌≡◌, ◌∙◌, ◌+◌, ◌<◌, ◌++◌, ap, arith, inl, inr, length, length-set, set, sym, subst}
use Rattle.std.specs.List.{flat_map, range_with_len}
use Rattle.std.specs.Prelude.{option_copied, slice_index_or}
use Rattle.std.proofs.lemmas.Bool.{cases_eq}
use Rattle.std.proofs.lemmas.List.{get_or-set_other, get_or-set_same}
use Rattle.acas_base.specs.Encounter.{IsEncounter, Parts}
use Rattle.acas_base.specs.declared.TheConstants.{CRAFTS}
use Rattle.acas_base.specs.declared.craft.CraftSpec.{CraftSpec}
use Rattle.advisory_report.specs.Composite.{clear, shown}
use Rattle.air_journal.proofs.Bounds.{few-crafts}
use Rattle.acas_lines.proofs.Ranges.{flat-more}
use Rattle.air_journal.proofs.Addresses.{address-is}
use Rattle.rec_text.proofs.Reporting.{report-is}
use Rattle.rec_text.specs.Report.{report_of, shown_in}
use Rattle.rec_text.proofs.report.put_cycle.Goals as goal

pub loop-own-preserved : goal.loop-own-preserved
loop-own-preserved g c =
    let e = c.args.state.now.encounter in
    let journal = c.args.state.now.journal in
    let own = c.loop-own.own in
    let so = c.loop-own.invariant in
    let f = report_of e journal c.args.cycle in
    let crafts = c.crafts-crafts.ensures.value ∙ ap (λ (e : Parts). e.crafts) c.enc.ensures in
    let few : own < CRAFTS = (let n = few-crafts e (subst IsEncounter c.enc.ensures c.crafts-crafts.ensures.valid) in let t = c.loop-own-test.true in let l = ap length crafts in omega arith) in
    let size : own < length c.loop-own.composites = (let s = so.size in omega arith) in
    let here : c.put_commit.result ≡ shown_in journal c.args.cycle own = c.put_commit.ensures.shown ∙ ap shown c.cells-cells.ensures in
    let address = ap (λ (craft : CraftSpec). craft.address) (sym c.index-crafts-own.is) ∙ address-is e c.crafts-crafts.result.now own c.index-crafts-own.result crafts c.loop-own-test.true c.index-crafts-own.is in
    let before = so.before own (omega arith) (let t = c.loop-own-test.true in let l = ap length crafts in omega arith) in
    let line = report-is e journal c.args.cycle own (slice_index_or c.crafts-crafts.result.now own c.index-crafts-own.result).address (slice_index_or c.loop-own.composites own clear) (option_copied c.cells-cells.result) address before c.cells-cells.ensures in
    let next : own ≡ 0 + own = omega arith in
    let more = ap (λ xs. flat_map f (range_with_len 0 own) ++ xs) (line ∙ ap f next) in
    record {
      lines = subst (g.S.LineSink.took c.args.sink.now c.put_commit.new.sink) (more ∙ sym (flat-more f 0 own)) (g.met.S.LineSink.then _ _ _ _ _ so.lines c.put_commit.ensures.lines);
      size = length-set c.loop-own.composites own c.put_commit.result ∙ so.size;
      after = λ k h. elim (cases_eq k own) [
        | inl same ↦ ap (λ n. slice_index_or (set c.loop-own.composites own c.put_commit.result) n clear) same ∙ get_or-set_same c.loop-own.composites own c.put_commit.result clear size ∙ here ∙ ap (shown_in journal c.args.cycle) (sym same)
        | inr other ↦ get_or-set_other c.loop-own.composites own k c.put_commit.result clear other ∙ so.after k (omega arith)
      ];
      before = λ k low high. get_or-set_other c.loop-own.composites own k c.put_commit.result clear (λ same. omega arith) ∙ so.before k (omega arith) high;
    }
