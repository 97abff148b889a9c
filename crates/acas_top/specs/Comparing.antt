-- What the comparison of two recordings answers.
use Rattle.std.specs.Prelude.{◌≡◌, ℕ, ◌+◌, List, length}
use Rattle.acas_lines.specs.Split.{lines_of}
use Rattle.air_journal.specs.States.{State}
use Rattle.comparison.specs.Comparing.{compared_text}
use Rattle.comparison.specs.Found.{IsFound}
use Rattle.comparison.specs.Splitting.{IsSplit}
use Rattle.comparison.specs.declared.finding.Found.{Found}
use Rattle.rec_audit.specs.Judging.{IsRecordingOf, Judged}
use Rattle.rec_audit.specs.declared.verdict.Reason.{Reason}
use Rattle.rec_audit.specs.declared.verdict.Verdict.TheVariants as verdicts

-- The bytes are two recordings, one after the other, and the text says what differs between them.
pub record Compares (bytes text : List ℕ) : Type 0 where
  pub one : List ℕ
  pub other : List ℕ
  pub split : IsSplit bytes one other
  pub first : State
  pub second : State
  pub first_is : IsRecordingOf one first
  pub second_is : IsRecordingOf other second
  pub found : Found
  pub found_is : IsFound first second found
  pub text_is : text ≡ compared_text first second found

-- The first wrong line of two recordings, counted from the first byte of all, and why it is wrong. The other recording
-- is judged only where the first one is right.
pub data IsWrongOfTwo (one other : List ℕ) : ℕ → Reason → Type 0 where
  in_first : {line : ℕ} {reason : Reason} → Judged one (verdicts.Wrong line reason) → IsWrongOfTwo one other line reason
  in_second : {first : State} {line : ℕ} {reason : Reason} → IsRecordingOf one first → Judged other (verdicts.Wrong line reason) →
      IsWrongOfTwo one other (length (lines_of one) + line) reason
