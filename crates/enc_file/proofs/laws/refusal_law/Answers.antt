use Rattle.enc_file.specs.Records.{records_of}
use Rattle.enc_file.proofs.StatedText.{refused-by, refused-if}
use Rattle.enc_file.proofs.laws.refusal_law.Goals as goal

pub returns : goal.returns
returns c text refusal = (refused-by (records_of text) refusal, refused-if (records_of text) refusal)
