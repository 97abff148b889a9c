-- The status and the text of an answer, as the code holds it.
use Rattle.std.specs.Prelude.{ℕ, ◌≤◌, List, [], ◌∷◌, length, Option, None, Some}
use Rattle.acas_lines.specs.Lines.{joined}
use Rattle.acas_top.specs.Answers.{verdict_line}
use Rattle.acas_top.specs.Explaining.{right_encounter_lines, right_recording_lines}
use Rattle.acas_top.specs.Many.{many_lines}
use Rattle.acas_top.specs.Pages.{page_lines}
use Rattle.acas_top.specs.Refusing.{refused_line}
use Rattle.acas_top.specs.Summing.{summed_lines}
use Rattle.acas_top.specs.Sweeping.{swept_lines}
use Rattle.acas_top.specs.Telling.{tool_lines}
use Rattle.acas_top.specs.Varying.{varied_lines}
use Rattle.acas_top.specs.declared.answers.Answer.{Answer}
use Rattle.acas_top.specs.declared.answers.Answer.TheVariants.{Compared, Decoded, ExplainedRefusal, ExplainedWrong, Said, Judged, Made, Listed, Many, Recorded, Refused, RightEncounter, RightRecording, Shown, Summed, Swept, Told, Unmet, Varied}
use Rattle.acas_top.specs.declared.status.Status.{Status}
use Rattle.acas_top.specs.declared.status.Status.TheVariants as statuses
use Rattle.acas_top.specs.declared.telling.Told.{Told as ToolText}
use Rattle.acas_top.specs.declared.telling.Told.TheVariants as texts
use Rattle.acas_top.specs.Words.{most}
use Rattle.acas_top.specs.declared.words.Limit.{Limit}
use Rattle.acas_top.specs.declared.words.Tool.TheVariants as tools
use Rattle.comparison.specs.Comparing.{compared_lines}
use Rattle.enc_file.specs.Canonical.{canonical_lines}
use Rattle.possibilities.specs.Listing.{listing_lines}
use Rattle.rec_audit.specs.declared.verdict.Verdict.{Verdict}
use Rattle.rec_audit.specs.declared.verdict.Verdict.TheVariants as verdicts
use Rattle.rec_text.specs.Recording.{recording_lines}
use Rattle.word_text.specs.Lines.{word_lines}

-- The status of a verdict.
abbrev pub verdict_status : Verdict → Status
verdict_status (verdicts.Legal entries) = statuses.Done
verdict_status (verdicts.Wrong line reason) = statuses.Wrong

abbrev pub answer_status : Answer → Status
answer_status (Recorded state) = statuses.Done
answer_status (Made encounter) = statuses.Done
answer_status (Swept swept) = statuses.Done
answer_status (Varied varied) = statuses.Done
answer_status (Many list) = statuses.Done
answer_status (Told text) = statuses.Done
answer_status (Listed listed) = statuses.Done
answer_status (Summed commits counts) = statuses.Done
answer_status (Compared one other found) = statuses.Done
answer_status (Decoded word) = statuses.Done
answer_status (Shown page) = statuses.Done
answer_status (Said line) = statuses.Done
answer_status (RightEncounter right) = statuses.Done
answer_status (RightRecording right) = statuses.Done
answer_status (ExplainedRefusal at code told) = statuses.Refused
answer_status (ExplainedWrong line reason told) = statuses.Wrong
answer_status (Judged verdict) = verdict_status verdict
answer_status (Unmet line) = statuses.Refused
answer_status (Refused at code) = statuses.Refused

-- The lines of a tool's text.
abbrev pub told_lines : ToolText → List (List ℕ)
told_lines (texts.Messages state) = tool_lines tools.Messages state.encounter state.journal
told_lines (texts.Places state) = tool_lines tools.Places state.encounter state.journal
told_lines (texts.Reports state) = tool_lines tools.Reports state.encounter state.journal
told_lines (texts.Response state) = tool_lines tools.Response state.encounter state.journal
told_lines (texts.Picture state) = tool_lines tools.Picture state.encounter state.journal
told_lines (texts.Summary deliveries) = tool_lines tools.Summary deliveries.encounter deliveries.journal
told_lines (texts.Watch state) = tool_lines tools.Watch state.encounter state.journal
told_lines (texts.Why state) = tool_lines tools.Why state.encounter state.journal

abbrev pub answer_lines : Answer → List (List ℕ)
answer_lines (Recorded state) = recording_lines state.encounter state.journal
answer_lines (Made encounter) = canonical_lines encounter
answer_lines (Swept swept) = swept_lines swept.first swept.count swept.list.items swept.total
answer_lines (Varied varied) = varied_lines varied.crafts varied.outcome varied.changes varied.list
answer_lines (Many list) = many_lines list
answer_lines (Told text) = told_lines text
answer_lines (Listed listed) = listing_lines listed
answer_lines (Summed commits counts) = summed_lines commits counts
answer_lines (Compared one other found) = compared_lines one other found
answer_lines (Decoded word) = word_lines word
answer_lines (Shown page) = page_lines page
answer_lines (Said line) = line ∷ []
answer_lines (RightEncounter right) = right_encounter_lines right
answer_lines (RightRecording right) = right_recording_lines right
answer_lines (ExplainedRefusal at code told) = refused_line at code ∷ told ∷ []
answer_lines (ExplainedWrong line reason told) = verdict_line (verdicts.Wrong line reason) ∷ told ∷ []
answer_lines (Judged verdict) = verdict_line verdict ∷ []
answer_lines (Unmet line) = line ∷ []
answer_lines (Refused at code) = refused_line at code ∷ []

abbrev pub answer_text : Answer → List ℕ
answer_text answer = joined (answer_lines answer)

-- The bytes are within the limit, where there is one.
abbrev pub IsReadable : Option Limit → List ℕ → Type 0
IsReadable None bytes = Unit {0}
IsReadable (Some limit) bytes = length bytes ≤ most limit bytes
