use Rattle.std.proofs.Common.{subst}
use Rattle.acas_top.specs.Explaining.{EncounterFile, right_encounter_lines}
use Rattle.acas_top.proofs.explaining.RightEncounterText.put.Goals as goal

pub returns : goal.returns
returns g c =
    subst (λ (right : EncounterFile). g.S.LineSink.took c.args.sink.now c.put.new.sink (right_encounter_lines right)) c.self.view_is
    (rw c.as_slice-text.ensures.value at rw (c.faultless_line.ensures, c.of_encounter.ensures) at (g.met.S.LineSink.then _ _ _ _ _ c.line.ensures c.put.ensures))
