use Rattle.std.proofs.Common.{◌≡◌, ◌<◌, ◌^◌, ◌∷◌, ℕ, List, codes, length, sym, ap, ◌∙◌, subst}
use Rattle.air_journal.specs.States.{State}
use Rattle.acas_lines.specs.Lines.{count_line}
use Rattle.ra_report.specs.Blocks.{block_lines}
use Rattle.ra_report.proofs.Putting.{few-lines}
use Rattle.ra_report.proofs.lines.ReportsText.put.Goals as goal

pub returns : goal.returns
returns g c =
    let e = c.args.self.now.0.now.encounter in
    let J = c.args.self.now.0.now.journal in
    let lines = block_lines e J in
    let table = c.new-table.ensures in
    let few = subst (λ (s : State). length (block_lines s.encounter s.journal) < 2 ^ 32) (sym table) (few-lines e J c.legal_law.ensures.valid) in
    let count : c.count_lines.result ≡ length lines = c.count_lines.ensures few ∙ ap (λ (s : State). length (block_lines s.encounter s.journal)) table in
    let head : c.count_line.result ≡ count_line (codes "blocks") (length lines) = c.count_line.ensures ∙ ap (count_line (codes "blocks")) count in
    let put = subst (λ (s : State). g.S.LineSink.took c.line.new.self c.put.new.sink (block_lines s.encounter s.journal)) table c.put.ensures in
    subst (g.S.LineSink.took c.args.sink.now c.put.new.sink) (ap (λ (l : List ℕ). l ∷ lines) head) (g.met.S.LineSink.then _ _ _ _ _ c.line.ensures put)
