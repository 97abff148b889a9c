use Rattle.std.proofs.Common.{sym, ◌∙◌}
use Rattle.ra_block.proofs.Fields.{is-read, read-none, reads}
use Rattle.ra_block.specs.declared.block.RaBlock.{RaBlock}
use Rattle.ra_block.proofs.block.decode.Goals as goal

pub returns-clause-some : goal.returns-clause-some
returns-clause-some c = λ (b : RaBlock). (λ e. is-read c.args.word b (sym c.read.ensures ∙ e), λ is. c.read.ensures ∙ reads b c.args.word is)

pub returns-clause-none : goal.returns-clause-none
returns-clause-none c = (λ e. (read-none c.args.word).0 (sym c.read.ensures ∙ e), λ none. c.read.ensures ∙ (read-none c.args.word).1 none)
