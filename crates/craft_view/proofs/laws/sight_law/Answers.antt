use Rattle.craft_view.proofs.Alike.{sights-alike}
use Rattle.craft_view.proofs.laws.sight_law.Goals as goal

pub returns : goal.returns
returns c = sights-alike
