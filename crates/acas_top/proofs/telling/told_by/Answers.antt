use Rattle.std.proofs.Common.{sym, ap, ◌∙◌}
use Rattle.acas_top.specs.Telling.{tool_lines}
use Rattle.acas_top.specs.declared.words.Tool.{Tool}
use Rattle.acas_top.specs.declared.words.Tool.TheVariants.{Picture, Summary}
use Rattle.air_journal.specs.States.{State}
use Rattle.acas_top.proofs.telling.told_by.Goals as goal

pub returns-in_ok-new-in-Picture : goal.returns-in_ok-new-in-Picture
returns-in_ok-new-in-Picture c =
    ap (λ (s : State). tool_lines Picture s.encounter s.journal) c.in_ok-new-in-Picture.ensures
    ∙ ap (λ (tool : Tool). tool_lines tool c.args.state.encounter c.args.state.journal) (sym c.in-Picture.is)

pub returns-in_ok-new-in-Summary : goal.returns-in_ok-new-in-Summary
returns-in_ok-new-in-Summary c =
    ap (λ (s : State). tool_lines Summary s.encounter s.journal) c.in_ok-new-in-Summary.ensures
    ∙ ap (λ (tool : Tool). tool_lines tool c.args.state.encounter c.args.state.journal) (sym c.in-Summary.is)
