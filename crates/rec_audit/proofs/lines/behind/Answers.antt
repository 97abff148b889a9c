use Rattle.std.proofs.lemmas.Bool.Decides.{Decides-eqb}
use Rattle.std.proofs.lemmas.Slice.Eq.{strip_prefix_is}
use Rattle.rec_audit.proofs.FirstLine.{first-whole}
use Rattle.rec_audit.proofs.lines.behind.Goals as goal

pub returns : goal.returns
returns c = first-whole c.args.text.now c.args.line.now c.strip_prefix.result c.requires (strip_prefix_is Decides-eqb c.args.text.now c.args.line.now c.strip_prefix.result c.strip_prefix.ensures.cases)
