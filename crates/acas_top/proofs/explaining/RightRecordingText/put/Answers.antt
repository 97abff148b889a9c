use Rattle.std.proofs.Common.{subst}
use Rattle.acas_top.specs.Explaining.{RecordingFile, right_recording_lines}
use Rattle.acas_top.proofs.explaining.RightRecordingText.put.Goals as goal

pub returns : goal.returns
returns g c =
    subst (λ (right : RecordingFile). g.S.LineSink.took c.args.sink.now c.put.new.sink (right_recording_lines right)) c.self.view_is
    (rw c.as_slice.ensures.value at rw (c.legal_line.ensures, c.count.ensures.value, c.state.ensures, c.of_recording.ensures) at (g.met.S.LineSink.then _ _ _ _ _ c.line.ensures c.put.ensures))
