use Rattle.std.proofs.lemmas.Bool.Decides.{Decides-eqb}
use Rattle.std.proofs.lemmas.Slice.Eq.{strip_prefix_is}
use Rattle.fault_text.proofs.FirstPart.{both, both-first, both-lines, one-first, one-lines}
use Rattle.fault_text.proofs.lines.behind_end.Goals as goal

pub returns-in-Some-clause-lines : goal.returns-in-Some-clause-lines
returns-in-Some-clause-lines c = both-lines c.args.bytes.now c.in-Some.rest.now (rw c.in-Some.is at (strip_prefix_is Decides-eqb c.args.bytes.now both c.strip_prefix.result c.strip_prefix.ensures.cases))

pub returns-in-Some-clause-first : goal.returns-in-Some-clause-first
returns-in-Some-clause-first c = both-first c.args.bytes.now c.in-Some.rest.now (rw c.in-Some.is at (strip_prefix_is Decides-eqb c.args.bytes.now both c.strip_prefix.result c.strip_prefix.ensures.cases))

pub returns-in-None-clause-lines : goal.returns-in-None-clause-lines
returns-in-None-clause-lines c = one-lines c.args.bytes.now c.requires (rw c.in-None.is at (strip_prefix_is Decides-eqb c.args.bytes.now both c.strip_prefix.result c.strip_prefix.ensures.cases))

pub returns-in-None-clause-first : goal.returns-in-None-clause-first
returns-in-None-clause-first c = one-first c.args.bytes.now c.requires (rw c.in-None.is at (strip_prefix_is Decides-eqb c.args.bytes.now both c.strip_prefix.result c.strip_prefix.ensures.cases))
