-- The words of senses and of complements.
use Rattle.std.specs.Prelude.{ℕ, List, [], codes}
use Rattle.acas_base.specs.declared.advisory.Sense.{Sense}
use Rattle.acas_base.specs.declared.advisory.Sense.TheVariants.{Up, Down}
use Rattle.acas_base.specs.declared.advisory.Vrc.{Vrc}
use Rattle.acas_base.specs.declared.advisory.Vrc.TheVariants.{Nil, NotBelow, NotAbove}

abbrev pub sense_text : Sense → List ℕ
sense_text Up = codes "up"
sense_text Down = codes "down"

-- "Do not pass below" is `below`, "do not pass above" is `above`.
abbrev pub complement_text : Vrc → List ℕ
complement_text Nil = []
complement_text NotBelow = codes "below"
complement_text NotAbove = codes "above"
