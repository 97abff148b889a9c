use Rattle.std.proofs.Common.{◌∙◌, arith, sym}
use Rattle.acas_lines.specs.Lines.{joined}
use Rattle.acas_lines.specs.Split.{lines_of}
use Rattle.rec_audit.proofs.Spellings.{part-whole, returned, unreturned, whole-long}
use Rattle.rec_audit.specs.Explaining.{TellsText}
use Rattle.rec_audit.proofs.part.tell_part.Goals as goal

pub second-requires : goal.second-requires
second-requires c =
    let whole = part-whole c.args.bytes.now c.args.text.now c.args.lines.now.left c.requires.headed c.requires.is_part in
    omega (arith, c.requires.small, whole-long c.args.bytes.now c.args.text.now (joined c.requires.is_part.rest) whole)

pub returns-in-Some : goal.returns-in-Some
returns-in-Some c = record {
  text = c.args.text.now;
  is_part = c.requires.is_part;
  tells = returned c.second.result (lines_of c.args.text.now) c.first_return.result (TellsText c.args.lines.now.left c.args.text.now) c.sentence_of.result c.in-Some.line c.second.ensures.left c.second.ensures.taken c.first_return.ensures c.in-Some.is c.sentence_of.ensures;
}

pub returns-in_ok-told-in-None : goal.returns-in_ok-told-in-None
returns-in_ok-told-in-None c = record {
  text = c.args.text.now;
  is_part = c.requires.is_part;
  tells = unreturned c.second.result (lines_of c.args.text.now) c.first_return.result (TellsText c.args.lines.now.left c.args.text.now) c.in_ok-told-in-None.told c.second.ensures.left c.second.ensures.taken c.first_return.ensures c.in-None.is c.in_ok-told-in-None.ensures;
}
