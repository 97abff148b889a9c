use Rattle.std.proofs.Common.{◌≡◌, ℕ, ◌+◌, ◌++◌, length, length-append, sym, ap, ◌∙◌, subst, arith}
use Rattle.std.specs.List.{flat_map, range_with_len}
use Rattle.acas_lines.proofs.Ranges.{flat-more}
use Rattle.picture.proofs.Listing.{listed-append}
use Rattle.picture.specs.Gathered.{lines_at}
use Rattle.picture.specs.Heard.{listed}
use Rattle.picture.proofs.heard.put_cycle.Goals as goal

pub loop-own-preserved : goal.loop-own-preserved
loop-own-preserved g c =
    let top = c.args.top in
    let e = c.args.state.now.encounter in
    let labels = c.args.labels.now in
    let first = c.args.first in
    let f = lines_at c.args.state.now.journal (length c.args.state.now.encounter.crafts) c.args.cycle in
    let n = c.loop-own.own in
    let before = flat_map f (range_with_len 0 n) in
    let here : 0 + n ≡ n = omega arith in
    let more : flat_map f (range_with_len 0 (n + 1)) ≡ before ++ f n = flat-more f 0 n ∙ ap (λ (k : ℕ). before ++ f k) here in
    let drawn = rw c.loop-own.invariant.1.0 at c.put_call_of-number.ensures.drawn in
    let marks = g.met.D.Drawing.then _ _ _ _ _ c.loop-own.invariant.0 drawn in
    let count = c.put_call_of-number.ensures.next in
    let few = c.put_call_of-number.ensures.few in
    let number = c.loop-own.invariant.1.0 in
    let most = c.loop-own.invariant.1.1 in
    let sum = ap length more ∙ length-append before (f n) in (
      subst (g.D.Drawing.drew c.args.drawing.now c.put_call_of-number.new.drawing) (sym (listed-append top e labels first before (f n)) ∙ ap (listed top e labels first) (sym more)) marks,
      (omega (arith, count, number, sum), omega (arith, few, most)),
    )
