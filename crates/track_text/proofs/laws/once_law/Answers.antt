use Rattle.std.proofs.Common.{length}
use Rattle.enc_file.specs.Records.{records_of}
use Rattle.track_text.proofs.Once.{never-both}
use Rattle.track_text.proofs.laws.once_law.Goals as goal

pub returns : goal.returns
returns c = record {
  once = λ text e refusal said refused. never-both (records_of text) said.earlier refused.earlier (length refused.earlier) refusal.fault said.passed said.made.ended refused.passed refused.fault.faulty;
}
