use Rattle.std.proofs.Common.{◌≡◌, ℕ, ◌+◌, ◌-◌, ◌++◌, sym, ap, ◌∙◌, subst, arith}
use Rattle.std.specs.List.{flat_map, range_with_len}
use Rattle.std.proofs.lemmas.List.Concat.{flat_map-append}
use Rattle.acas_lines.proofs.Ranges.{flat-more}
use Rattle.equal_rows.specs.Rows.{rows_at, rows_of}
use Rattle.seconds_panel.specs.Lines.{row_marks, series_marks}
use Rattle.seconds_panel.specs.Seconds.{goes_on, is_told}
use Rattle.seconds_panel.proofs.lines.put_series.Goals as goal

pub loop-cycle-preserved : goal.loop-cycle-preserved
loop-cycle-preserved g c =
    let run = c.args.seconds.now in
    let series = c.args.series in
    let f = row_marks c.args.top run.encounter run.pair c.args.names.now.own.now c.args.names.now.other.now series in
    let rows = rows_at (is_told run.encounter run.pair series) (goes_on run.encounter run.pair series) run.encounter.cycles in
    let n = c.loop-cycle.cycle - 1 in
    let here : 1 + n ≡ c.loop-cycle.cycle = omega arith in
    let next : n + 1 ≡ (c.loop-cycle.cycle + 1) - 1 = omega arith in
    subst (g.D.Drawing.drew c.args.drawing.now c.put_begun.new.drawing)
    (sym (flat_map-append f (flat_map rows (range_with_len 1 n)) (rows c.loop-cycle.cycle))
    ∙ ap (flat_map f) (ap (λ (k : ℕ). flat_map rows (range_with_len 1 n) ++ rows k) (sym here) ∙ sym (flat-more rows 1 n) ∙ ap (λ (k : ℕ). flat_map rows (range_with_len 1 k)) next))
    (g.met.D.Drawing.then _ _ _ _ _ c.loop-cycle.invariant c.put_begun.ensures)

pub returns : goal.returns
unfolding series_marks rows_of
returns g c =
    let run = c.args.seconds.now in
    let series = c.args.series in
    let f = row_marks c.args.top run.encounter run.pair c.args.names.now.own.now c.args.names.now.other.now series in
    let rows = rows_at (is_told run.encounter run.pair series) (goes_on run.encounter run.pair series) run.encounter.cycles in
    let time = c.requires.time in
    let all : c.loop-cycle.cycle - 1 ≡ run.encounter.cycles = (let end = c.loop-cycle-test.false in let most = c.loop-cycle.auto.cycle-end in omega arith) in
    subst (λ (n : ℕ). g.D.Drawing.drew c.args.drawing.now c.loop-cycle.drawing (flat_map f (flat_map rows (range_with_len 1 n)))) all c.loop-cycle.invariant
