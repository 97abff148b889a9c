-- What the tools tell of a recording.
use Rattle.std.specs.Prelude.{◌≡◌, ◌++◌, ℕ, List}
use Rattle.acas_base.specs.Encounter.{Parts}
use Rattle.acas_base.specs.declared.entry.Entry.{Entry}
use Rattle.acas_lines.specs.Lines.{joined}
use Rattle.acas_top.specs.declared.words.Tool.{Tool}
use Rattle.acas_top.specs.declared.words.Tool.TheVariants.{Messages, Picture, Places, Reports, Response, Summary, Watch, Why}
use Rattle.air_journal.specs.States.{State}
use Rattle.deliveries.specs.Text.{delivery_lines}
use Rattle.journal_tables.specs.Messages.{message_lines}
use Rattle.journal_tables.specs.Places.{place_lines}
use Rattle.labels.specs.Labels.{LabelWords, no_labels}
use Rattle.pair_watch.specs.Watching.{watch_lines}
use Rattle.ra_report.specs.Blocks.{report_lines}
use Rattle.reasons.specs.Reasons.{reasons_lines}
use Rattle.rec_audit.specs.Judging.{IsRecordingOf}
use Rattle.response.specs.Response.{response_lines}
use Rattle.picture.specs.Picture.{picture_lines}
use Rattle.summary.specs.Summary.{summary_lines}

-- The lines that a tool tells of an encounter and its journal. Without words a picture has no labels.
abbrev pub tool_lines : Tool → Parts → List Entry → List (List ℕ)
tool_lines Messages e journal = message_lines e journal
tool_lines Places e journal = place_lines e journal
tool_lines Reports e journal = report_lines e journal
tool_lines Response e journal = response_lines e journal
tool_lines Picture e journal = picture_lines no_labels e journal
tool_lines Summary e journal = summary_lines e journal ++ delivery_lines e journal
tool_lines Watch e journal = watch_lines e journal
tool_lines Why e journal = reasons_lines e journal

-- The bytes are the recording of an encounter and a legal and complete journal, and the text has these lines of both.
pub record Describes (lines : Parts → List Entry → List (List ℕ)) (bytes text : List ℕ) : Type 0 where
  pub state : State
  pub recording : IsRecordingOf bytes state
  pub text_is : text ≡ joined (lines state.encounter state.journal)

-- The text is the tool's.
abbrev pub Tells : Tool → List ℕ → List ℕ → Type 0
Tells tool bytes text = Describes (tool_lines tool) bytes text

-- The text is the picture with these labels.
abbrev pub Draws : LabelWords → List ℕ → List ℕ → Type 0
Draws labels bytes text = Describes (picture_lines labels) bytes text
