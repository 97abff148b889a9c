use Rattle.std.proofs.Common.{◌≡◌, refl}
use Rattle.rec_audit.proofs.Spellings.{returned, unreturned}
use Rattle.rec_audit.specs.Explaining.{fault_of}
use Rattle.verdict_text.specs.Sentences.{sentence}
use Rattle.verdict_text.specs.declared.fault.Why.TheVariants as why
use Rattle.rec_audit.proofs.misspelled.tell_no_end.Goals as goal

pub returns-in-Some : goal.returns-in-Some
returns-in-Some c =
    returned c.args.lines.now c.args.lines.now.left c.first_return.result (λ told. told ≡ sentence (fault_of c.args.line why.NoEnd)) c.sentence_of.result c.in-Some.at refl c.requires.second c.first_return.ensures c.in-Some.is c.sentence_of.ensures

pub returns-in-None : goal.returns-in-None
returns-in-None c =
    unreturned c.args.lines.now c.args.lines.now.left c.first_return.result (λ told. told ≡ sentence (fault_of c.args.line why.NoEnd)) c.sentence_of-in-None.result refl c.requires.second c.first_return.ensures c.in-None.is c.sentence_of-in-None.ensures
