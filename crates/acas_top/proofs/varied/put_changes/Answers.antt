use Rattle.std.proofs.Common.{◌≡◌, ◌∙◌, ◌++◌, ◌∷◌, [], None, ap, ap₂, arith, length, map, subst, sym}
use Rattle.std.specs.Prelude.{slice_index_or}
use Rattle.std.specs.List.{range_with_len}
use Rattle.std.proofs.lemmas.List.{get_or_default, get_or_read_under}
use Rattle.std.proofs.lemmas.List.FromFn.{map-range_with_len_more}
use Rattle.acas_top.specs.Varying.{change_line, line_at}
use Rattle.variants.specs.Rows.{exchange_of}
use Rattle.acas_top.proofs.varied.put_changes.Goals as goal

pub loop-place-preserved : goal.loop-place-preserved
loop-place-preserved g c =
    let place = c.loop-place.place in
    let changes = c.args.changes.now in
    let list = c.args.list.now in
    let f = line_at c.args.crafts.now changes list in
    let change = get_or_default changes place _ (exchange_of 0 0) c.loop-place-test.true in
    let given : c.index-list-place.result ≡ slice_index_or list place None = get_or_read_under list place (length changes) c.index-list-place.result None c.index-list-place.is c.loop-place-test.true c.requires.same in
    let line : c.change_line.result ≡ f place = c.change_line.ensures ∙ ap₂ (λ x y. change_line c.args.crafts.now x y) change given in
    let more = ap (λ text. map f (range_with_len 0 place) ++ text) (ap (λ text. text ∷ []) line) ∙ sym (map-range_with_len_more f 0 place place (omega arith)) in
    subst (g.S.LineSink.took c.args.sink.now c.line.new.self) more (g.met.S.LineSink.then _ _ _ _ _ c.loop-place.invariant c.line.ensures)
