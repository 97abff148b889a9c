use Rattle.std.proofs.Common.{◌≡◌, ℕ, ◌+◌, ◌++◌, List, sym, ap, ◌∙◌, subst, arith}
use Rattle.std.specs.List.{flat_map, range_with_len}
use Rattle.acas_lines.proofs.Ranges.{flat-more}
use Rattle.possibilities.specs.Listing.{equal_lines_of}
use Rattle.possibilities.proofs.possibilities.Possibilities.put_equal_from.Goals as goal

pub loop-high-preserved : goal.loop-high-preserved
loop-high-preserved g c =
    let f : ℕ → List (List ℕ) = equal_lines_of c.args.self.now c.args.low in
    let next : c.loop-high.high ≡ 0 + c.loop-high.high = omega arith in
    subst (g.S.LineSink.took c.args.sink.now c.put_equal_of.new.sink) (ap (λ n. flat_map f (range_with_len 0 c.loop-high.high) ++ f n) next ∙ sym (flat-more f 0 c.loop-high.high))
    (g.met.S.LineSink.then _ _ _ _ _ c.loop-high.invariant c.put_equal_of.ensures)
