use Rattle.std.proofs.Common.{◌∷◌, [], ℕ, List, ◌∙◌, subst}
use Rattle.comparison.proofs.sides.put_told.Goals as goal

pub returns : goal.returns
returns g c =
    subst (λ (word : List ℕ). g.S.LineSink.took c.args.sink.now c.line-2.new.self (word ∷ c.args.line.now ∷ [])) (c.fixed_line.ensures ∙ c.side_text.ensures.text)
    (g.met.S.LineSink.then _ _ _ _ _ c.line.ensures c.line-2.ensures)
