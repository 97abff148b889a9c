use Rattle.std.proofs.Common.{◌≡◌, ◌∙◌, ◌++◌, ◌∷◌, [], ap, arith, map, subst, sym}
use Rattle.std.specs.Prelude.{slice_index_or}
use Rattle.std.specs.List.{range_with_len}
use Rattle.std.proofs.lemmas.List.FromFn.{map-range_with_len_more}
use Rattle.acas_top.specs.Sweeping.{line_at, nothing, number_line}
use Rattle.acas_top.proofs.sweep_text.put_numbers.Goals as goal

pub loop-at-preserved : goal.loop-at-preserved
loop-at-preserved g c =
    let at = c.loop-at.at in
    let f = line_at c.args.first c.args.list.now in
    let so = c.loop-at.invariant in
    let line : c.number_line.result ≡ f at = c.number_line.ensures ∙ ap (λ number. number_line number (slice_index_or c.args.list.now at nothing)) so.0 in
    let more = ap (λ text. map f (range_with_len 0 at) ++ text) (ap (λ text. text ∷ []) line) ∙ sym (map-range_with_len_more f 0 at at (omega arith)) in
    (omega (arith, so.0), subst (g.S.LineSink.took c.args.sink.now c.line.new.self) more (g.met.S.LineSink.then _ _ _ _ _ so.1 c.line.ensures))
