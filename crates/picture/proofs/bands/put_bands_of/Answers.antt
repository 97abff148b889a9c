use Rattle.std.proofs.Common.{◌≡◌, ℕ, ◌+◌, ◌-◌, ◌++◌, sym, ap, ◌∙◌, subst, arith}
use Rattle.std.specs.List.{flat_map, range_with_len}
use Rattle.std.proofs.lemmas.List.Concat.{flat_map-append}
use Rattle.acas_lines.proofs.Ranges.{flat-more}
use Rattle.equal_rows.specs.Rows.{rows_at, rows_of}
use Rattle.picture.specs.Bands.{band_of_row, bands_of}
use Rattle.picture.specs.Shown.{goes_on, is_shown}
use Rattle.picture.proofs.bands.put_bands_of.Goals as goal

pub loop-cycle-preserved : goal.loop-cycle-preserved
loop-cycle-preserved g c =
    let e = c.args.state.now.encounter in
    let J = c.args.state.now.journal in
    let own = c.args.course.own in
    let f = band_of_row c.args.course.axis e J own c.args.address in
    let rows = rows_at (is_shown J own) (goes_on J own) e.cycles in
    let n = c.loop-cycle.cycle - 1 in
    let here : 1 + n ≡ c.loop-cycle.cycle = omega arith in
    let next : n + 1 ≡ (c.loop-cycle.cycle + 1) - 1 = omega arith in
    subst (g.D.Drawing.drew c.args.drawing.now c.put_begun.new.drawing)
    (sym (flat_map-append f (flat_map rows (range_with_len 1 n)) (rows c.loop-cycle.cycle))
    ∙ ap (flat_map f) (ap (λ (k : ℕ). flat_map rows (range_with_len 1 n) ++ rows k) (sym here) ∙ sym (flat-more rows 1 n) ∙ ap (λ (k : ℕ). flat_map rows (range_with_len 1 k)) next))
    (g.met.D.Drawing.then _ _ _ _ _ c.loop-cycle.invariant c.put_begun.ensures)

pub returns : goal.returns
unfolding bands_of rows_of
returns g c =
    let e = c.args.state.now.encounter in
    let J = c.args.state.now.journal in
    let own = c.args.course.own in
    let f = band_of_row c.args.course.axis e J own c.args.address in
    let rows = rows_at (is_shown J own) (goes_on J own) e.cycles in
    let run = c.requires.run in
    let all : c.loop-cycle.cycle - 1 ≡ e.cycles = (let end = c.loop-cycle-test.false in let most = c.loop-cycle.auto.cycle-end in omega arith) in
    subst (λ (n : ℕ). g.D.Drawing.drew c.args.drawing.now c.loop-cycle.drawing (flat_map f (flat_map rows (range_with_len 1 n)))) all c.loop-cycle.invariant
