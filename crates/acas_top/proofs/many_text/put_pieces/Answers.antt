use Rattle.std.proofs.Common.{◌≡◌, ◌∙◌, ◌+◌, ◌++◌, ◌∷◌, [], ap, arith, map, subst, sym}
use Rattle.std.specs.Prelude.{slice_index_or}
use Rattle.std.specs.List.{range_with_len}
use Rattle.std.proofs.lemmas.List.{get_or_read}
use Rattle.std.proofs.lemmas.List.FromFn.{map-range_with_len_more}
use Rattle.acas_top.specs.Many.{piece_line, piece_line_at}
use Rattle.acas_top.specs.declared.many.PieceRun.TheVariants.{Faulty}
use Rattle.acas_top.proofs.many_text.put_pieces.Goals as goal

pub loop-place-preserved : goal.loop-place-preserved
loop-place-preserved g c =
    let place = c.loop-place.place in
    let list = c.args.list.now in
    let f = piece_line_at list in
    let it : c.index-list-place.result ≡ slice_index_or list place (Faulty 0 0) = get_or_read list place c.index-list-place.result c.loop-place-test.true c.index-list-place.is (Faulty 0 0) in
    let line : c.piece_line.result ≡ f place = c.piece_line.ensures ∙ ap (λ x. piece_line (place + 1) x) it in
    let more = ap (λ text. map f (range_with_len 0 place) ++ text) (ap (λ text. text ∷ []) line) ∙ sym (map-range_with_len_more f 0 place place (omega arith)) in
    subst (g.S.LineSink.took c.args.sink.now c.line.new.self) more (g.met.S.LineSink.then _ _ _ _ _ c.loop-place.invariant c.line.ensures)
