use Rattle.fault_text.proofs.Visible.{shown-seen}
use Rattle.fault_text.proofs.shown.shown_law.Goals as goal

pub returns : goal.returns
returns c bytes = shown-seen bytes
