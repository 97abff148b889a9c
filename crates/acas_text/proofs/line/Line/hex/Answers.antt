use Rattle.acas_text.proofs.Digits.{digits-value-hex}
use Rattle.acas_text.proofs.line.Line.hex.Goals as goal

pub returns-clause-whole : goal.returns-clause-whole
returns-clause-whole c = digits-value-hex c.args.digits c.args.value c.requires.fits
