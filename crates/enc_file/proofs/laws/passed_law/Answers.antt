use Rattle.enc_file.proofs.Begun.{refused-end, refused-first}
use Rattle.enc_file.proofs.laws.passed_law.Goals as goal

pub returns-clause-format : goal.returns-clause-format
returns-clause-format c rows refusal r first = refused-first rows refusal r first

pub returns-clause-end : goal.returns-clause-end
returns-clause-end c rows refusal r ended = refused-end rows refusal r ended
