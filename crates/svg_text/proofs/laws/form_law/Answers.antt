use Rattle.svg_text.proofs.WellFormed.{form}
use Rattle.svg_text.proofs.laws.form_law.Goals as goal

pub returns : goal.returns
returns c = form
