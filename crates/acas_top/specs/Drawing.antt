-- What a picture is drawn of.
use Rattle.std.specs.Prelude.{ℕ, List}
use Rattle.acas_top.specs.declared.drawing.Drawable.{Drawable}
use Rattle.acas_top.specs.declared.drawing.Drawable.TheVariants.{Legal, Wrong}
use Rattle.rec_audit.specs.Judging.{IsRecordingOf, Judged}
use Rattle.rec_audit.specs.declared.verdict.Verdict.TheVariants as verdicts

-- The bytes are the recording of this state, or none, and this line is the first wrong one.
abbrev pub IsDrawable : List ℕ → Drawable → Type 0
IsDrawable bytes (Legal state) = IsRecordingOf bytes state
IsDrawable bytes (Wrong line reason) = Judged bytes (verdicts.Wrong line reason)
