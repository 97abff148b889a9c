use Rattle.std.proofs.Common.{◌∙◌, ap}
use Rattle.std.specs.Prelude.{codes}
use Rattle.acas_base.specs.Encounter.{Parts}
use Rattle.acas_lines.specs.Lines.{count_line}
use Rattle.reasons.proofs.text.ReasonsText.put.Goals as goal

pub returns : goal.returns
returns g c =
    let then = g.met.S.LineSink.then in
    let head = c.count_line.ensures ∙ ap (count_line (codes "why")) c.reason_count.ensures in
    let first = rw head at c.line.ensures in
    let profile = c.profile.ensures ∙ ap (λ (e : Parts). e.profile) c.enc.ensures in
    let second = rw (c.names_line.ensures, profile) at c.line-2.ensures in
    then _ _ _ _ _ first (then _ _ _ _ _ second c.put_commits.ensures)
