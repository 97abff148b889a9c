use Rattle.std.proofs.Common.{◌≡◌, ℕ, ◌+◌, ◌++◌, List, sym, ap, ◌∙◌, subst, arith}
use Rattle.std.specs.List.{flat_map, range_with_len}
use Rattle.acas_lines.proofs.Ranges.{flat-more}
use Rattle.possibilities.specs.Listing.{word_lines_in}
use Rattle.possibilities.proofs.possibilities.Possibilities.put_words_of.Goals as goal

pub loop-made-preserved : goal.loop-made-preserved
loop-made-preserved g c =
    let f : ℕ → List (List ℕ) = word_lines_in c.args.self.now c.args.own in
    let next : c.loop-made.made + 1 ≡ 1 + c.loop-made.made = omega arith in
    subst (g.S.LineSink.took c.args.sink.now c.put_words_in.new.sink) (ap (λ n. flat_map f (range_with_len 1 c.loop-made.made) ++ f n) next ∙ sym (flat-more f 1 c.loop-made.made))
    (g.met.S.LineSink.then _ _ _ _ _ c.loop-made.invariant c.put_words_in.ensures)
