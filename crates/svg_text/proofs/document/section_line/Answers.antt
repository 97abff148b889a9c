use Rattle.svg_text.specs.Attributes.{opening}
use Rattle.svg_text.proofs.document.section_line.Goals as goal

pub returns-in-Window : goal.returns-in-Window
unfolding opening
returns-in-Window c = rw c.in-Window.is c.fixed_line-in-Window.ensures
