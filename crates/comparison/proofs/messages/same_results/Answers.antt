use Rattle.std.specs.Cmp.{booleans_Decides}
use Rattle.std.proofs.lemmas.Slice.Eq.{slice_eq-Decides}
use Rattle.comparison.proofs.Equal.{option-decides}
use Rattle.comparison.proofs.messages.same_results.Goals as goal

pub returns : goal.returns
returns c = slice_eq-Decides (option-decides _ booleans_Decides) c.args.one.now c.args.other.now c.eq.result c.eq.ensures
