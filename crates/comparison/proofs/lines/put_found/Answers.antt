use Rattle.std.proofs.Common.{◌≡◌, ◌∷◌, ◌++◌, ℕ, List, ap, ◌∙◌, subst}
use Rattle.std.specs.Prelude.{codes, is_none}
use Rattle.comparison.specs.Comparing.{cell_lines, sameness_line}
use Rattle.comparison.specs.Reports.{apart_lines}
use Rattle.comparison.proofs.Helps.{none-is}
use Rattle.comparison.proofs.lines.put_found.Goals as goal

pub returns : goal.returns
returns g c =
    let rest = cell_lines c.args.one.now c.args.other.now c.args.run.cell ++ apart_lines c.args.one.now c.args.other.now in
    let cells = sameness_line (codes "cells") (is_none c.args.run.cell) in
    let report = sameness_line (codes "report") c.args.run.same_report in
    let first : c.sameness_line.result ≡ cells = c.sameness_line.ensures ∙ ap (sameness_line (codes "cells")) (none-is _ c.is_none.result c.is_none.ensures) in
    let all =
    ap (λ (x : List ℕ). x ∷ c.sameness_line-2.result ∷ c.sameness_line-3.result ∷ rest) first
    ∙ ap (λ (x : List ℕ). cells ∷ x ∷ c.sameness_line-3.result ∷ rest) c.sameness_line-2.ensures
    ∙ ap (λ (x : List ℕ). cells ∷ report ∷ x ∷ rest) c.sameness_line-3.ensures in
    subst (g.S.LineSink.took c.args.sink.now c.put.new.sink) all
    (g.met.S.LineSink.then _ _ _ _ _ c.line.ensures (g.met.S.LineSink.then _ _ _ _ _ c.line-2.ensures (g.met.S.LineSink.then _ _ _ _ _ c.line-3.ensures (g.met.S.LineSink.then _ _ _ _ _ c.put_cell.ensures c.put.ensures))))
