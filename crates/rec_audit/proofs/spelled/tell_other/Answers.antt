use Rattle.std.proofs.Common.{List, Option, ℕ, subst, sym}
use Rattle.rec_audit.proofs.Texts.{first-line, first-none, other-told}
use Rattle.rec_audit.specs.Explaining.{IsFound}
use Rattle.verdict_text.specs.declared.fault.Found.TheVariants as found
use Rattle.rec_audit.proofs.spelled.tell_other.Goals as goal

pub returns-in-Some : goal.returns-in-Some
returns-in-Some c =
    other-told c.args.line _ c.args.wanted.now c.found_in.result c.other_sentence.result
    (subst (λ (o : Option (List ℕ)). IsFound o c.found_in.result) (sym (first-line c.args.lines.now c.again.result c.next.new.self c.in-Some.text.now c.again.ensures c.in-Some.ensures)) c.found_in.ensures) c.other_sentence.ensures

pub returns-in-None : goal.returns-in-None
returns-in-None c = other-told c.args.line _ c.args.wanted.now found.Missing c.other_sentence-in-None.result (first-none c.args.lines.now c.again.result c.again.ensures c.in-None.ensures.0) c.other_sentence-in-None.ensures
