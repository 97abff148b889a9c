use Rattle.std.proofs.lemmas.Bool.Decides.{Decides-eqb}
use Rattle.std.proofs.lemmas.Slice.Eq.{strip_prefix_is}
use Rattle.fault_text.proofs.Marked.{mark, with-mark, without-mark}
use Rattle.fault_text.proofs.lines.unmarked.Goals as goal

pub returns-in-Some-clause-bare : goal.returns-in-Some-clause-bare
returns-in-Some-clause-bare c = with-mark c.args.text.now c.in-Some.rest.now (rw c.in-Some.is at (strip_prefix_is Decides-eqb c.args.text.now mark c.strip_prefix.result c.strip_prefix.ensures.cases))

pub returns-in-None-clause-bare : goal.returns-in-None-clause-bare
returns-in-None-clause-bare c = without-mark c.args.text.now (rw c.in-None.is at (strip_prefix_is Decides-eqb c.args.text.now mark c.strip_prefix.result c.strip_prefix.ensures.cases))
