use Rattle.fault_text.proofs.RecordLines.{records-are-lines}
use Rattle.fault_text.proofs.lines.records_law.Goals as goal

pub returns : goal.returns
returns c text = records-are-lines text
