use Rattle.svg_text.specs.Attributes.{turn_text}
use Rattle.svg_text.proofs.Adding.{three-parts}
use Rattle.svg_text.proofs.attributes.add_turn_text.Goals as goal

pub returns-clause-added : goal.returns-clause-added
unfolding turn_text
returns-clause-added c = three-parts _ _ _ _ _ _ _ c.text.ensures.added c.add_place_text.ensures.added c.text-2.ensures.added
