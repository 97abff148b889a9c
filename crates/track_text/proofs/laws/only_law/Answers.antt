use Rattle.enc_file.specs.Records.{records_of}
use Rattle.track_text.proofs.Once.{made-once}
use Rattle.track_text.proofs.OneRefusal.{refused-once}
use Rattle.track_text.proofs.laws.only_law.Goals as goal

pub returns-clause-said : goal.returns-clause-said
returns-clause-said c text d e one two first second = made-once (records_of text) d e one two first.earlier second.earlier first.passed second.passed first.made second.made

pub returns-clause-refused : goal.returns-clause-refused
returns-clause-refused c = refused-once
