use Rattle.acas_base.proofs.Labels.{label-short}
use Rattle.enc_file.proofs.spelling.text_of.Goals as goal

pub returns-clause-short : goal.returns-clause-short
returns-clause-short c = rw c.bytes.ensures.value (label-short c.args.label.now c.bytes.ensures.label)
