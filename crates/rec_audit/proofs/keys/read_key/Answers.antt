use Rattle.rec_audit.proofs.Keyed.{reads-key}
use Rattle.rec_audit.proofs.keys.read_key.Goals as goal

pub returns : goal.returns
returns c = reads-key c.args.count c.args.text.now _ c.key_of.result c.requires.1 (rw (c.of.ensures) at c.key_of.ensures)
