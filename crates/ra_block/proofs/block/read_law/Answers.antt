use Rattle.ra_block.proofs.Fields.{is-word, reads}
use Rattle.ra_block.specs.Words.{word_of}
use Rattle.ra_block.proofs.block.read_law.Goals as goal

pub returns : goal.returns
returns c b is = reads b (word_of b) (is-word b is)
