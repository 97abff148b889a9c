use Rattle.std.proofs.Common.{◌≡◌, ℕ, List, ◌+◌, ◌++◌, sym, ap, ◌∙◌, arith, append_assoc}
use Rattle.std.specs.List.{flat_map, range_with_len}
use Rattle.acas_lines.proofs.Ranges.{flat-more}
use Rattle.outcomes.specs.Lines.{letter_of}
use Rattle.outcomes.proofs.lines.add_letters.Goals as goal

pub loop-own-preserved : goal.loop-own-preserved
loop-own-preserved c =
    let f : ℕ → List ℕ = letter_of c.args.crafts c.args.list.now in
    let n = c.loop-own.own in
    let here : n ≡ 0 + n = omega arith in
    let front = c.args.line.now in
    record {
      added = c.add_letter.ensures.added ∙ ap (λ (l : List ℕ). l ++ f n) c.loop-own.invariant.added ∙ append_assoc front (flat_map f (range_with_len 0 n)) (f n)
          ∙ ap (λ k. front ++ (flat_map f (range_with_len 0 n) ++ f k)) here ∙ ap (λ l. front ++ l) (sym (flat-more f 0 n));
      short = (let so_far = c.loop-own.invariant.short in let one = c.add_letter.ensures.short in omega arith);
    }
