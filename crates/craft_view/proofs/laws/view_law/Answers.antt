use Rattle.craft_view.proofs.Limits.{meets-limits}
use Rattle.craft_view.proofs.Resolving.{resolves-as-own, see-nothing, threatens}
use Rattle.craft_view.proofs.laws.view_law.Goals as goal

pub returns-clause-threat : goal.returns-clause-threat
returns-clause-threat c = threatens

pub returns-clause-resolves : goal.returns-clause-resolves
returns-clause-resolves c = resolves-as-own

pub returns-clause-nothing : goal.returns-clause-nothing
returns-clause-nothing c = see-nothing

pub returns-clause-limits : goal.returns-clause-limits
returns-clause-limits c = meets-limits
