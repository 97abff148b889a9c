use Rattle.std.proofs.Common.{List, Option, ℕ, subst, sym}
use Rattle.rec_audit.proofs.Texts.{first-line, first-none}
use Rattle.rec_audit.specs.Explaining.{IsFound}
use Rattle.verdict_text.specs.declared.fault.Found.TheVariants as found
use Rattle.verdict_text.specs.declared.fault.Why.TheVariants as why
use Rattle.rec_audit.proofs.misspelled.tell_no_count.Goals as goal

pub returns-in-Some : goal.returns-in-Some
returns-in-Some c = record {
  why = why.NoCount c.found_in.result;
  fitting = subst (λ (o : Option (List ℕ)). IsFound o c.found_in.result) (sym (first-line c.args.lines.now c.again.result c.next.new.self c.in-Some.text.now c.again.ensures c.in-Some.ensures)) c.found_in.ensures;
  told_is = c.sentence_of.ensures;
}

pub returns-in-None : goal.returns-in-None
returns-in-None c = record {
  why = why.NoCount found.Missing;
  fitting = first-none c.args.lines.now c.again.result c.again.ensures c.in-None.ensures.0;
  told_is = c.sentence_of-in-None.ensures;
}
