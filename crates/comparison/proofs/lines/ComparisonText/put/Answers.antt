use Rattle.std.proofs.Common.{◌≡◌, ◌∷◌, [], ℕ, Bool, List, false, cond, sym, ap, ◌∙◌, subst}
use Rattle.std.specs.Prelude.{codes}
use Rattle.comparison.specs.Comparing.{different_lines, sameness_line}
use Rattle.comparison.specs.Found.{is_equal}
use Rattle.comparison.proofs.lines.ComparisonText.put.Goals as goal

pub returns-then-not-same : goal.returns-then-not-same
returns-then-not-same g c =
    let self = c.args.self.now in
    let rest = different_lines self.one.now self.other.now self.found.now in
    let equal = is_equal self.found.now in
    let differs : equal ≡ false = sym c.is_equal-same.ensures ∙ c.if-not-same.true in
    let first : c.sameness_line.result ≡ sameness_line (codes "compare") equal = c.sameness_line.ensures ∙ ap (sameness_line (codes "compare")) c.is_equal-same.ensures in
    subst (g.S.LineSink.took c.args.sink.now c.put_different.new.sink) (ap (λ (x : List ℕ). x ∷ rest) first ∙ ap (λ (b : Bool). sameness_line (codes "compare") equal ∷ cond b [] rest) (sym differs))
    (g.met.S.LineSink.then _ _ _ _ _ c.line.ensures c.put_different.ensures)
