use Rattle.enc_file.proofs.laws.canonical_records_law.Goals as goal
use Rattle.enc_file.proofs.CanonicalRead.{records-of-canonical}

pub returns : goal.returns
returns c e labels = records-of-canonical e labels
