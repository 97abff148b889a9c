use Rattle.std.proofs.Common.{◌≡◌, ◌∷◌, ◌++◌, ℕ, List, ap, ap₂, ◌∙◌, subst}
use Rattle.std.specs.Prelude.{codes, is_none}
use Rattle.acas_base.specs.Encounter.{Parts}
use Rattle.comparison.specs.Comparing.{encounter_lines, run_lines, sameness_line}
use Rattle.comparison.proofs.Helps.{none-is}
use Rattle.comparison.proofs.lines.put_different.Goals as goal

pub returns : goal.returns
returns g c =
    let one = c.args.one.now in
    let other = c.args.other.now in
    let found = c.args.found.now in
    let runs = run_lines one other found.run in
    let first : c.sameness_line.result ≡ sameness_line (codes "encounter") (is_none found.encounter) = c.sameness_line.ensures ∙ ap (sameness_line (codes "encounter")) (none-is _ c.is_none.result c.is_none.ensures) in
    let encounters = ap₂ (λ (e f : Parts). encounter_lines e f found.encounter) c.enc.ensures c.enc-2.ensures in
    subst (g.S.LineSink.took c.args.sink.now c.put_run.new.sink) (ap₂ (λ (x : List ℕ) (xs : List (List ℕ)). x ∷ (xs ++ runs)) first encounters)
    (g.met.S.LineSink.then _ _ _ _ _ c.line.ensures (g.met.S.LineSink.then _ _ _ _ _ c.put_encounter.ensures c.put_run.ensures))
