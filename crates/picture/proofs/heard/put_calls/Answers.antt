use Rattle.std.proofs.Common.{◌≡◌, ℕ, ◌+◌, ◌-◌, ◌++◌, length, length-append, sym, ap, ◌∙◌, subst, arith}
use Rattle.std.specs.List.{flat_map, range_with_len}
use Rattle.acas_lines.proofs.Ranges.{flat-more}
use Rattle.picture.proofs.Listing.{listed-append}
use Rattle.picture.specs.Gathered.{lines_in}
use Rattle.picture.specs.Heard.{listed}
use Rattle.picture.proofs.heard.put_calls.Goals as goal

pub loop-cycle-preserved : goal.loop-cycle-preserved
loop-cycle-preserved g c =
    let top = c.args.top in
    let e = c.args.state.now.encounter in
    let labels = c.args.labels.now in
    let f = lines_in c.args.state.now.journal (length e.crafts) in
    let n = c.loop-cycle.cycle - 1 in
    let before = flat_map f (range_with_len 1 n) in
    let here : 1 + n ≡ c.loop-cycle.cycle = omega arith in
    let next : n + 1 ≡ (c.loop-cycle.cycle + 1) - 1 = omega arith in
    let more : flat_map f (range_with_len 1 ((c.loop-cycle.cycle + 1) - 1)) ≡ before ++ f c.loop-cycle.cycle = ap (λ (k : ℕ). flat_map f (range_with_len 1 k)) (sym next) ∙ flat-more f 1 n ∙ ap (λ (k : ℕ). before ++ f k) here in
    let drawn = rw c.loop-cycle.invariant.1.0 at c.put_cycle-number.ensures.drawn in
    let marks = g.met.D.Drawing.then _ _ _ _ _ c.loop-cycle.invariant.0 drawn in
    let count = c.put_cycle-number.ensures.next in
    let few = c.put_cycle-number.ensures.few in
    let number = c.loop-cycle.invariant.1.0 in
    let most = c.loop-cycle.invariant.1.1 in
    let begin : length before ≡ 0 + length before = omega arith in
    let sum = ap length more ∙ length-append before (f c.loop-cycle.cycle) in (
      subst (g.D.Drawing.drew c.args.drawing.now c.put_cycle-number.new.drawing) (ap (λ (k : ℕ). listed top e labels 0 before ++ listed top e labels k (f c.loop-cycle.cycle)) begin ∙ sym (listed-append top e labels 0 before (f c.loop-cycle.cycle)) ∙ ap (listed top e labels 0) (sym more)) marks,
      (omega (arith, count, number, sum), omega (arith, few, most)),
    )
