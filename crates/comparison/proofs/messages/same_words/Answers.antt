use Rattle.std.proofs.lemmas.Bool.Decides.{Decides-eqb}
use Rattle.std.proofs.lemmas.Slice.Eq.{slice_eq-Decides}
use Rattle.comparison.proofs.Equal.{option-decides}
use Rattle.comparison.proofs.messages.same_words.Goals as goal

pub returns : goal.returns
returns c = slice_eq-Decides (option-decides _ Decides-eqb) c.args.one.now c.args.other.now c.eq.result c.eq.ensures
